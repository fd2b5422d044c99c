use Rattle.std.proofs.Common.{◌≡◌, ◌∙◌, inr, suc, ◌+◌, length, Some, arith, sym, ap, slice_get}
use Rattle.c_typed.specs.Parts.{tree_of}
use Rattle.code_moves.specs.Setting.{setting_of}
use Rattle.code_moves.proofs.Standing.{stand-later}
use Rattle.cfg_build.specs.declared.placing.Places.{Places}
use Rattle.cfg_build.specs.Built.{first_graphs}
use Rattle.cfg_build.specs.Follows.{plan_of}
use Rattle.cfg_build.proofs.Gathering.{graph-added}
use Rattle.cfg_build.proofs.Graphing.{graphs-count, graph-more, some-of, plan-is}
use Rattle.cfg_build.proofs.building.graphs_of.Goals as goal

pub loop-number-preserved : goal.loop-number-preserved
loop-number-preserved c =
    let w = c.args.whole.now in
    let k = c.loop-number.number in
    let places = c.in_ok-places.places in
    let t : slice_get w.ranges.now k ≡ Some c.in-Some.range = sym c.in-Some.ensures in
    let e : suc k ≡ k + 1 = omega arith in
    record {
      follow = λ h.
          let b = c.loop-number.invariant.follow h in
          let g = some-of _ _ _ c.in-Some-2.is (c.in_ok-graph.ensures.made (stand-later _ _ _ b.0 h)) in
          graph-more _ _ _ w.code.now w.numbers.now w.ranges.now c.args.main (setting_of c.args.ground.now) k _ _ _ _ _ c.in-Some.range (plan_of places) c.in-Some-2.graph b g t
          (plan-is places w c.in-Some.range (ap (λ p. p.whole) c.in_ok-places.ensures) (ap (λ p. p.range) c.in_ok-places.ensures)) c.in_ok-push.ensures.items c.in_ok-push-2.ensures.items e;
      are =
          graph-added w.code.now w.numbers.now w.owners.now w.ranges.now (tree_of c.args.typed.now).functions c.args.main (setting_of c.args.ground.now) _ _ _ k _ _ _ _ _ c.in-Some.range
          (plan_of places) places.whole.owners.now c.in-Some-2.graph c.loop-number.invariant.are (some-of _ _ _ c.in-Some-2.is c.in_ok-graph.ensures.value) t
          (ap plan_of c.in_ok-places.ensures) (ap (λ (p : Places). p.whole.owners.now) c.in_ok-places.ensures) c.in_ok-push.ensures.items c.in_ok-push-2.ensures.items e;
    }

pub returns-clause-whole : goal.returns-clause-whole
returns-clause-whole c = λ h a.
    let n : length c.loop-number.all.graphs.items ≡ c.loop-number.number = graphs-count _ _ _ _ _ _ _ _ _ (c.loop-number.invariant.follow h).1 in
    omega (arith, n, c.loop-number-test.false, c.loop-number.auto.number-end)

pub returns-clause-value : goal.returns-clause-value
returns-clause-value c =
    let w = c.args.whole.now in
    let n : c.loop-number.number ≡ length w.ranges.now = omega (arith, c.loop-number-test.false, c.loop-number.auto.number-end) in
    inr (c.loop-number.invariant.are ∙ ap (first_graphs w.code.now w.numbers.now w.owners.now w.ranges.now (tree_of c.args.typed.now).functions c.args.main (setting_of c.args.ground.now) _) n)
