use Rattle.std.proofs.Common.{◌≡◌, ◌++◌}
use Rattle.c_graph.specs.Chains.{chain}
use Rattle.c_graph.proofs.flow.follow.Given as goal

abbrev pub invariant-loop-left : goal.invariant-loop-left
invariant-loop-left l = l.found.items ++ chain l.next l.left l.at ≡ chain l.next l.most l.from

abbrev pub decreases-loop-left : goal.decreases-loop-left
decreases-loop-left l = l.left
