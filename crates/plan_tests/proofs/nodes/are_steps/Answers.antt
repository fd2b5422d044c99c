use Rattle.std.proofs.Common.{rules, ◌≡◌, ◌≤◌, get_or, length, refl, Some, slice_get, sym}
use Rattle.std.proofs.lemmas.Option.{slice_get_read}
use Rattle.c_graph.specs.declared.graph.Edge.{Edge}
use Rattle.plan_tests.specs.Made as made
use Rattle.plan_tests.specs.Nodes.{IsStep}
use Rattle.plan_tests.proofs.Deciding.{all-end, all-more}
use Rattle.plan_tests.proofs.Passing.{all_passed, one_passed}
use Rattle.plan_tests.proofs.nodes.are_steps.Goals as goal

pub loop-number-preserved : goal.loop-number-preserved
loop-number-preserved c =
    let x : Edge = c.index-edges-number.result in
    let is : x ≡ get_or c.args.edges.now c.loop-number.number x = search rules in
    let there : slice_get c.args.edges.now c.loop-number.number ≡ Some x =
    slice_get_read c.args.edges.now (length c.args.edges.now) c.loop-number.number x refl c.loop-number-test.true is in (
      one_passed c.args.edges.now (λ k e. IsStep c.args.known.now e.from.0 e.to.0) c.loop-number.number x there (c.if-not-is_step.ensures.tells refl)
          c.loop-number.invariant.0,
      all-more (made.is_step c.args.known.now) c.args.edges.now c.loop-number.number x there (sym c.if-not-is_step.ensures.made) c.loop-number.invariant.1,
    )

pub returns-clause-tells : goal.returns-clause-tells
returns-clause-tells c y =
    let past : length c.args.edges.now ≤ c.loop-number.number = search rules in
    all_passed c.args.edges.now (λ k e. IsStep c.args.known.now e.from.0 e.to.0) c.loop-number.number past c.loop-number.invariant.0

pub returns-clause-made : goal.returns-clause-made
returns-clause-made c =
    let past : length c.args.edges.now ≤ c.loop-number.number = search rules in
    all-end (made.is_step c.args.known.now) c.args.edges.now c.loop-number.number past c.loop-number.invariant.1
