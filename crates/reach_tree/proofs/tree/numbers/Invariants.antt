use Rattle.std.proofs.Common.{◌≡◌, ◌++◌, ◌-◌, ◌+◌}
use Rattle.reach_tree.specs.Trees.{numbers_from}
use Rattle.reach_tree.proofs.tree.numbers.Given as goal

abbrev pub invariant-loop-number : goal.invariant-loop-number
invariant-loop-number l = l.numbers.items ++ numbers_from l.number (l.first + l.count - l.number) ≡ numbers_from l.first l.count
