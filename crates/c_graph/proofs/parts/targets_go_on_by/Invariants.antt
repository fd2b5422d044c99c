use Rattle.std.proofs.Common.{take, All}
use Rattle.c_graph.specs.Parts.{GoesOnBy}
use Rattle.c_graph.proofs.parts.targets_go_on_by.Given as goal

abbrev pub invariant-loop-edge : goal.invariant-loop-edge
invariant-loop-edge l = All (λ e. GoesOnBy l.nodes l.marks e.to) (take l.edge-index l.edges)
