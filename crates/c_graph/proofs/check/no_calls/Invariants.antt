use Rattle.std.proofs.Common.{take, All}
use Rattle.c_graph.specs.Shape.{IsNoCall}
use Rattle.c_graph.proofs.check.no_calls.Given as goal

abbrev pub invariant-loop-node : goal.invariant-loop-node
invariant-loop-node l = All IsNoCall (take l.node-index l.nodes)
