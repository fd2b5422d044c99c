use Rattle.walk_states.specs.Known.{plan_of}
use Rattle.plan_tests.proofs.Flowing.{flows_by}
use Rattle.plan_tests.proofs.flow.flows.Goals as goal

pub returns-then-all_reads_flow-clause-tells : goal.returns-then-all_reads_flow-clause-tells
returns-then-all_reads_flow-clause-tells c y =
    flows_by (plan_of c.args.known.now) c.args.edge.now c.as_slice-ops.result.now c.as_slice-ops.ensures
    (c.all_reads_flow.ensures.tells c.if-all_reads_flow.true) (c.stays_live.ensures.tells y)
