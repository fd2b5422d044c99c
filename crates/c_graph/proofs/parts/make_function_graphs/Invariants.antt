use Rattle.std.proofs.Common.{take, All, length}
use Rattle.c_graph.specs.Functions.{IsFnFlow}
use Rattle.c_graph.proofs.parts.make_function_graphs.Given as goal

abbrev pub invariant-loop-graph : goal.invariant-loop-graph
invariant-loop-graph l = All (IsFnFlow (length l.graphs) l.terms) (take l.graph-index l.graphs)
