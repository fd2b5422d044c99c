use Rattle.std.proofs.Common.{◌≡◌, ◌++◌, drop}
use Rattle.reach_tree.specs.Trees.{leaves_of}
use Rattle.reach_tree.proofs.tree.new_leaves.Given as goal

abbrev pub invariant-loop-out : goal.invariant-loop-out
invariant-loop-out l = l.leaves.items ++ leaves_of l.edges l.v (drop l.out-index l.outs) ≡ leaves_of l.edges l.v l.outs
