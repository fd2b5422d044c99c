use Rattle.std.proofs.Common.{◌≡◌, ◌<◌, ℕ, length, ◌+◌, ◌-◌, sym, subst, ◌∙◌, arith}
use Rattle.bv_term.specs.declared.term.Term.{Term}
use Rattle.invariant_map.specs.declared.operands.Uses.{Uses}
use Rattle.invariant_map.specs.Copies.{EachUse, Each, IsClosed, uses_of}
use Rattle.invariant_map.proofs.Moves.{each_map}
use Rattle.invariant_map.proofs.Copies.{operands_below}
use Rattle.invariant_map.proofs.Marks.{closed_mark, keeps_twice, uses_kept}
use Rattle.invariant_map.proofs.marking.mark_below.Goals as goal

pub mark_uses-requires : goal.mark_uses-requires
mark_uses-requires c =
    let t : Term = c.get.result in
    let at : ℕ = c.loop-at.at - 1 in
    let below : Each (λ j. j < at) t = operands_below c.args.terms.now at t c.count-at.ensures.table c.get.ensures in
    let small : Each (λ j. j < length c.loop-at.marks) t =
    each_map (λ j. j < at) (λ j. j < length c.loop-at.marks) t (λ j h. omega (arith, h, c.loop-at.invariant.within, c.loop-at-test.true)) below in
    subst (λ (u : Uses). EachUse (λ k. k < length c.loop-at.marks) u) (sym c.operands.ensures) small

pub loop-at-preserved-then-is_at : goal.loop-at-preserved-then-is_at
loop-at-preserved-then-is_at c =
    let t : Term = c.get.result in
    let at : ℕ = c.loop-at.at - 1 in
    let up : c.loop-at.at ≡ at + 1 = omega (arith, c.loop-at-test.true) in
    let was : IsClosed c.args.terms.now.terms c.loop-at.marks (at + 1) = subst (λ (k : ℕ). IsClosed c.args.terms.now.terms c.loop-at.marks k) up c.loop-at.invariant.closed in
    let kept = uses_kept c.loop-at.marks (uses_of t) in
    rw (c.mark_uses.ensures, c.operands.ensures) (record {
      within = omega (arith, c.loop-at.invariant.within, kept.sized);
      many = kept.sized ∙ c.loop-at.invariant.many;
      closed = closed_mark c.args.terms.now c.loop-at.marks at t c.count-at.ensures.table c.get.ensures (omega (arith, c.loop-at.invariant.within, c.loop-at-test.true)) was;
      kept = keeps_twice _ _ _ c.loop-at.invariant.kept kept;
    })
