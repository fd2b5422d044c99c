use Rattle.std.proofs.Common.{All, take}
use Rattle.reach_tree.specs.Trees.{IsLabel}
use Rattle.unwinding_tables.proofs.trees.are_labels.Given as goal

abbrev pub invariant-loop-label : goal.invariant-loop-label
invariant-loop-label l = All (λ x. IsLabel l.terms x.label) (take l.label-index l.labels)
