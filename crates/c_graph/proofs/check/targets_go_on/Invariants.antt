use Rattle.std.proofs.Common.{take, All}
use Rattle.c_graph.specs.Shape.{GoesOn}
use Rattle.c_graph.proofs.check.targets_go_on.Given as goal

abbrev pub invariant-loop-edge : goal.invariant-loop-edge
invariant-loop-edge l = All (λ e. GoesOn l.nodes l.edges e.to) (take l.edge-index l.edges)
