use Rattle.std.proofs.Common.{◌≡◌, drop}
use Rattle.c_graph.specs.Shape.{has_out}
use Rattle.c_graph.proofs.check.leads_on.Given as goal

abbrev pub invariant-loop-edge : goal.invariant-loop-edge
invariant-loop-edge l = has_out l.edges l.node ≡ has_out (drop l.edge-index l.edges) l.node
