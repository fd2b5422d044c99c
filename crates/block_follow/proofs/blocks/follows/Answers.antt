use Rattle.std.proofs.Common.{arith, rules, ◌≡◌, ◌∙◌, ◌==◌, ap, inl, inr, sym, ◌≤◌, true, false, List, Some, slice_index}
use Rattle.plan_tables.specs.Tables.{flag_at}
use Rattle.block_rule.specs.Plans.{matters}
use Rattle.walk_states.specs.declared.state.Place.{Place}
use Rattle.walk_states.specs.Known.{plan_of}
use Rattle.block_places.specs.Made as places
use Rattle.block_follow.specs.Made as made
use Rattle.block_follow.proofs.Deciding.{follows-by}
use Rattle.block_follow.proofs.Growing.{weaken}
use Rattle.block_follow.proofs.blocks.follows.Goals as goal

pub returns-in-None-clause-tells : goal.returns-in-None-clause-tells
returns-in-None-clause-tells c =
    let some : 1 ≤ slice_index c.args.sizes.now c.args.node = omega (arith, c.if-size-eq0.false, c.size_at-size.ensures) in
    weaken c.keeps.result _ _ (λ b kept t cut m. (inr (kept t), some)) c.keeps.ensures.tells

pub returns-in-Some-clause-tells : goal.returns-in-Some-clause-tells
returns-in-Some-clause-tells c =
    weaken c.begins.result _ _
    (λ b begun t cut m. let (block, few) = begun t in (inl block, omega (arith, few, c.size_at-size.ensures)))
    c.begins.ensures.tells

pub returns-in-Some-clause-made : goal.returns-in-Some-clause-made
returns-in-Some-clause-made c =
    let cut : flag_at c.args.known.now.cuts c.args.node ≡ true = search rules in
    let much : matters (plan_of c.args.known.now) c.args.node ≡ true = search rules in
    let some : (c.size_at-size.result == 0) ≡ false = search rules in
    let found : made.places_at c.args.old.now c.args.known.now (made.lists_of c.args.members.now) c.args.node ≡ Some c.deref.result.now =
    sym c.in_ok-places_at.ensures.made ∙ ap places.items_of c.in-Some.is ∙ ap (λ (ps : List Place). Some ps) (sym c.deref.ensures.value) in
    weaken c.begins.result _ _
    (λ b e. e ∙ follows-by c.args.old.now c.args.new.now c.args.known.now (made.lists_of c.args.members.now) c.args.firsts.now c.args.sizes.now c.args.node
    c.size_at-size.result c.first_at-first.result c.deref.result.now cut much some c.size_at-size.ensures c.first_at-first.ensures.made found)
    c.begins.ensures.made
