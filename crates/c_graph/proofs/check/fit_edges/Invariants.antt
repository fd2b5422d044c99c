use Rattle.std.proofs.Common.{take, All}
use Rattle.c_graph.specs.Shape.{EdgeFits}
use Rattle.c_graph.proofs.check.fit_edges.Given as goal

abbrev pub invariant-loop-edge : goal.invariant-loop-edge
invariant-loop-edge l = All (EdgeFits l.nodes l.terms) (take l.edge-index l.edges)
