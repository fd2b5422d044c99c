use Rattle.std.proofs.Common.{◌≡◌, ◌++◌, drop}
use Rattle.block_rule.specs.Rule.{with_wait}
use Rattle.walk_states.specs.Walks.{waits_of}
use Rattle.walk_states.proofs.lists.with_wait.Given as goal

abbrev pub invariant-loop-number : goal.invariant-loop-number
invariant-loop-number l =
    with_wait (waits_of l.waiting) l.node l.guard ≡ waits_of l.all.items ++ with_wait (waits_of (drop l.number l.waiting)) l.node l.guard
