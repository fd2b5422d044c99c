use Rattle.std.proofs.Common.{◌≡◌, ◌∙◌, None, Some, ap, arith, length, refl, sym, slice_get}
use Rattle.std.proofs.lemmas.Option.{slice_get_read}
use Rattle.block_places.specs.Made as places
use Rattle.block_follow.specs.Made as made
use Rattle.block_follow.proofs.Deciding.{get-past, no-list, one-list}
use Rattle.block_follow.proofs.Growing.{weaken}
use Rattle.block_follow.proofs.blocks.places_at.Goals as goal

pub returns-in-None-clause-made : goal.returns-in-None-clause-made
returns-in-None-clause-made c =
    let look = c.in-None.ensures.lookup in
    let none : slice_get c.args.members.now c.args.node ≡ None = get-past c.args.members.now c.args.node (omega (arith, look.3)) in
    sym (ap (made.places_among c.args.old.now c.args.known.now) (no-list c.args.members.now c.args.node none))

pub returns-in-Some-clause-made : goal.returns-in-Some-clause-made
returns-in-Some-clause-made c =
    let look = c.in-Some.ensures.lookup in
    let there : slice_get c.args.members.now c.args.node ≡ Some c.in-Some.nodes.now =
    slice_get_read c.args.members.now (length c.args.members.now) c.args.node c.in-Some.nodes.now refl look.3.0 look.1 in
    let found : made.places_at c.args.old.now c.args.known.now (made.lists_of c.args.members.now) c.args.node
    ≡ places.places_of_nodes c.args.old.now c.args.known.now c.deref.result.now =
    ap (made.places_among c.args.old.now c.args.known.now) (one-list c.args.members.now c.args.node c.in-Some.nodes.now there)
    ∙ ap (places.places_of_nodes c.args.old.now c.args.known.now) (sym c.deref.ensures.value) in
    weaken c.places_of_nodes.result _ _ (λ o e. e ∙ sym found) c.places_of_nodes.ensures.made
