use Rattle.std.proofs.Common.{◌≡◌, ℕ, length, sym, ap, subst, ◌∙◌, arith}
use Rattle.invariant_map.specs.Labels.{AreParts, ArePlaced}
use Rattle.invariant_map.proofs.Joins.{all_placed_stay}
use Rattle.invariant_map.proofs.joining.joined.Goals as goal

pub join_vertex-requires-clause-placed : goal.join_vertex-requires-clause-placed
join_vertex-requires-clause-placed c =
    let e : length c.deref_mut.result.now ≡ c.args.nodes = ap length c.deref_mut.ensures.value ∙ c.loop-number.invariant.size in
    subst (λ (n : ℕ). ArePlaced c.args.unwinding.now n c.loop-number.terms c.args.places.now) (sym e)
    (all_placed_stay c.args.unwinding.now c.args.nodes c.args.terms.now c.loop-number.terms c.args.places.now c.loop-number.invariant.extends c.requires.placed)

pub returns-clause-parts : goal.returns-clause-parts
returns-clause-parts c =
    let e : c.loop-number.number ≡ length c.args.unwinding.now.vertices = omega (arith, c.count-number-end.ensures, c.loop-number-test.false, c.loop-number.auto.number-end) in
    subst (λ (n : ℕ). AreParts c.args.unwinding.now n c.loop-number.terms c.loop-number.parts.items) e c.loop-number.invariant.parts
