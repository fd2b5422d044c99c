use Rattle.std.proofs.Common.{◌≡◌, ◌≢◌, ℕ, ◌+◌, ◌-◌, ◌<◌, ◌≤◌, ◌&&◌, ◌||◌, ◌==◌, Bool, true, false, not, List, [], ◌∷◌, ◌++◌, length, refl, sym, ap, ◌∙◌, subst, arith, rules, Some, Result, Ok, Err, slice_get, zero, suc}
use Rattle.formula_diagrams.specs.Writings.{is_marked, IsClosed}
use Rattle.formula_diagrams.proofs.Marking.{closed-mark, closed-pass, closed-start, closed-from, marked-keep, marked-lengths}
use Rattle.formula_diagrams.proofs.writing.mark_below.Goals as goal

pub loop-at-init : goal.loop-at-init
loop-at-init c = record { within = omega arith; many = c.requires.many; closed = closed-start _ _ _ refl; kept = λ k h. h }

pub mark_sides-requires-clause-low : goal.mark_sides-requires-clause-low
mark_sides-requires-clause-low c =
    let b = c.requires.below _ _ c.node_of-node.ensures in
    omega (arith, b.0, c.loop-at.invariant.within, c.loop-at-test.true)

pub mark_sides-requires-clause-high : goal.mark_sides-requires-clause-high
mark_sides-requires-clause-high c =
    let b = c.requires.below _ _ c.node_of-node.ensures in
    omega (arith, b.1, c.loop-at.invariant.within, c.loop-at-test.true)

pub loop-at-preserved-then-marks-at : goal.loop-at-preserved-then-marks-at
loop-at-preserved-then-marks-at c =
    let at : ℕ = c.loop-at.at - 1 in
    let up : c.loop-at.at ≡ at + 1 = omega (arith, c.loop-at-test.true) in
    let was : IsClosed c.args.nodes.now c.loop-at.marks (at + 1) = subst (λ (k : ℕ). IsClosed c.args.nodes.now c.loop-at.marks k) up c.loop-at.invariant.closed in
    let b = c.requires.below at c.node_of-node.result c.node_of-node.ensures in
    rw c.mark_sides.ensures (record {
      within = omega (arith, c.loop-at.invariant.within, marked-lengths c.loop-at.marks c.node_of-node.result);
      many = omega (arith, c.loop-at.invariant.many, marked-lengths c.loop-at.marks c.node_of-node.result);
      closed = closed-mark _ _ at c.node_of-node.result c.node_of-node.ensures b.0 b.1 (omega (arith, c.loop-at.invariant.within, c.loop-at-test.true)) was;
      kept = λ k h. marked-keep c.loop-at.marks c.node_of-node.result k (c.loop-at.invariant.kept k h);
    })

pub loop-at-preserved : goal.loop-at-preserved
loop-at-preserved c =
    let at : ℕ = c.loop-at.at - 1 in
    let up : c.loop-at.at ≡ at + 1 = omega (arith, c.loop-at-test.true) in
    let was : IsClosed c.args.nodes.now c.loop-at.marks (at + 1) = subst (λ (k : ℕ). IsClosed c.args.nodes.now c.loop-at.marks k) up c.loop-at.invariant.closed in
    record {
      within = omega (arith, c.loop-at.invariant.within);
      many = c.loop-at.invariant.many;
      closed = closed-pass _ _ at c.if-marks-at.false was;
      kept = c.loop-at.invariant.kept;
    }

pub returns-clause-closed : goal.returns-clause-closed
returns-clause-closed c =
    let e : c.loop-at.at ≡ 0 = omega (arith, c.loop-at-test.false) in
    closed-from _ _ _ e c.loop-at.invariant.closed
