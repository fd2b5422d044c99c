use Rattle.std.proofs.Common.{◌<◌, All, length, take}
use Rattle.unwinding_tables.proofs.trees.are_there.Given as goal

abbrev pub invariant-loop-label : goal.invariant-loop-label
invariant-loop-label l = All (λ x. x.vertex.0 < length l.tree.vertices) (take l.label-index l.labels)
