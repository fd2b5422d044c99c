use Rattle.std.proofs.Common.{◌≡◌, ◌++◌, drop}
use Rattle.block_rule.specs.Rule.{without}
use Rattle.walk_states.specs.Walks.{waits_of}
use Rattle.walk_states.proofs.lists.without.Given as goal

abbrev pub invariant-loop-number : goal.invariant-loop-number
invariant-loop-number l =
    without (waits_of l.waiting) l.node ≡ waits_of l.all.items ++ without (waits_of (drop l.number l.waiting)) l.node
