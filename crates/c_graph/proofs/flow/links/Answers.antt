use Rattle.std.proofs.Common.{arith}
use Rattle.c_graph.proofs.Chaining.{linked_step}
use Rattle.c_graph.proofs.flow.links.Goals as goal

pub loop-number-preserved : goal.loop-number-preserved
loop-number-preserved c =
    (omega arith, linked_step c.args.nodes c.args.edges.now c.loop-number.number c.source-from.result c.index.result.now c.loop-number.first.items c.loop-number.next.items c.loop-number-test.true c.loop-number.invariant.0 c.source-from.ensures c.index.ensures (c.requires.sources _ (omega arith)) c.loop-number.invariant.1)
