use Rattle.std.proofs.Common.{rules, ◌≡◌, ◌≤◌, get_or, length, refl, Some, slice_get, sym}
use Rattle.std.proofs.lemmas.Option.{slice_get-get_or}
use Rattle.c_graph.specs.declared.graph.LoopAt.{LoopAt}
use Rattle.walk_states.specs.Known.{plan_of}
use Rattle.plan_tests.specs.Nodes.{IsListed}
use Rattle.plan_tests.specs.Made as made
use Rattle.plan_tests.proofs.Deciding.{all-end, all-more}
use Rattle.plan_tests.proofs.Passing.{all_passed, one_passed}
use Rattle.plan_tests.proofs.nodes.are_listed.Goals as goal

pub loop-number-preserved : goal.loop-number-preserved
loop-number-preserved c =
    let x : LoopAt = get_or c.args.loops.now c.loop-number.number (record { at = 0; node = record { 0 = 0 } }) in
    let there : slice_get c.args.loops.now c.loop-number.number ≡ Some x = slice_get-get_or c.args.loops.now c.loop-number.number (record { at = 0; node = record { 0 = 0 } }) c.loop-number-test.true in (
      one_passed c.args.loops.now (λ k (x : LoopAt). IsListed (plan_of c.args.known.now) x.node) c.loop-number.number x there (c.if-not-is_listed.ensures.tells refl) c.loop-number.invariant.0,
      all-more (λ (x : LoopAt). made.is_listed c.args.known.now x.node) c.args.loops.now c.loop-number.number x there (sym c.if-not-is_listed.ensures.made) c.loop-number.invariant.1,
    )

pub returns-clause-tells : goal.returns-clause-tells
returns-clause-tells c y =
    let past : length c.args.loops.now ≤ c.loop-number.number = search rules in
    all_passed c.args.loops.now (λ k (x : LoopAt). IsListed (plan_of c.args.known.now) x.node) c.loop-number.number past c.loop-number.invariant.0

pub returns-clause-made : goal.returns-clause-made
returns-clause-made c =
    let past : length c.args.loops.now ≤ c.loop-number.number = search rules in
    all-end (λ (x : LoopAt). made.is_listed c.args.known.now x.node) c.args.loops.now c.loop-number.number past c.loop-number.invariant.1
