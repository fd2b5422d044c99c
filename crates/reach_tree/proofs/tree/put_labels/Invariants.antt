use Rattle.std.proofs.Common.{◌≡◌, length}
use Rattle.reach_tree.specs.Trees.{relabelled}
use Rattle.reach_tree.proofs.tree.put_labels.Given as goal

abbrev pub invariant-loop-new_label : goal.invariant-loop-new_label
invariant-loop-new_label l = (l.vertices.items ≡ relabelled l.initial.vertices.items l.yielded) × (length l.vertices.items ≡ length l.initial.vertices.items)
