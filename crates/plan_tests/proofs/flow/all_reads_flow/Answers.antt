use Rattle.std.proofs.Common.{rules, ◌≡◌, ◌≤◌, get_or, length, refl, Some, slice_get, sym, take}
use Rattle.std.proofs.lemmas.Option.{slice_get-get_or}
use Rattle.c_graph.specs.declared.graph.Operation.{Operation}
use Rattle.c_graph.specs.declared.graph.Operation.TheVariants.{Assume}
use Rattle.walk_states.specs.Known.{plan_of}
use Rattle.plan_tests.specs.Flow.{ReadsFlow}
use Rattle.plan_tests.specs.Made as made
use Rattle.plan_tests.proofs.Deciding.{at-end, first-more, first-not}
use Rattle.plan_tests.proofs.Passing.{all_passed, one_passed}
use Rattle.plan_tests.proofs.flow.all_reads_flow.Goals as goal

pub loop-number-preserved : goal.loop-number-preserved
loop-number-preserved c =
    let x : Operation = get_or c.args.ops.now c.loop-number.number (Assume (record { 0 = 0 })) in
    let there : slice_get c.args.ops.now c.loop-number.number ≡ Some x = slice_get-get_or c.args.ops.now c.loop-number.number (Assume (record { 0 = 0 })) c.loop-number-test.true in (
      one_passed c.args.ops.now (λ k op. ReadsFlow (plan_of c.args.known.now) c.args.node (take k c.args.ops.now) op) c.loop-number.number x there (c.if-not-reads_flow.ensures.tells refl) c.loop-number.invariant.0,
      first-more (λ number op. made.reads_flow c.args.known.now c.args.node (take number c.args.ops.now) op) c.args.ops.now c.loop-number.number x there (sym c.if-not-reads_flow.ensures.made) c.loop-number.invariant.1,
    )

pub returns-then-not-reads_flow-clause-made : goal.returns-then-not-reads_flow-clause-made
returns-then-not-reads_flow-clause-made c =
    let x : Operation = get_or c.args.ops.now c.loop-number.number (Assume (record { 0 = 0 })) in
    let there : slice_get c.args.ops.now c.loop-number.number ≡ Some x = slice_get-get_or c.args.ops.now c.loop-number.number (Assume (record { 0 = 0 })) c.loop-number-test.true in
    first-not (λ number op. made.reads_flow c.args.known.now c.args.node (take number c.args.ops.now) op) c.args.ops.now c.loop-number.number x there (sym c.if-not-reads_flow.ensures.made)

pub returns-clause-tells : goal.returns-clause-tells
returns-clause-tells c y =
    let past : length c.args.ops.now ≤ c.loop-number.number = search rules in
    all_passed c.args.ops.now (λ k op. ReadsFlow (plan_of c.args.known.now) c.args.node (take k c.args.ops.now) op) c.loop-number.number past c.loop-number.invariant.0

pub returns-clause-made : goal.returns-clause-made
returns-clause-made c =
    let past : length c.args.ops.now ≤ c.loop-number.number = search rules in
    at-end (λ number op. made.reads_flow c.args.known.now c.args.node (take number c.args.ops.now) op) 0 c.args.ops.now c.loop-number.number past c.loop-number.invariant.1
