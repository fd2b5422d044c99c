use Rattle.std.proofs.Common.{take, All}
use Rattle.c_graph.specs.Parts.{CallFitsBy}
use Rattle.c_graph.proofs.parts.calls_fit.Given as goal

abbrev pub invariant-loop-node : goal.invariant-loop-node
invariant-loop-node l = All (CallFitsBy l.functions l.nodes l.marks) (take l.node-index l.nodes)
