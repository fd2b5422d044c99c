use Rattle.std.proofs.Common.{◌≡◌, ◌++◌, drop}
use Rattle.walk_states.specs.Walks.{waits_of}
use Rattle.walk_states.proofs.lists.joined.Given as goal

abbrev pub invariant-loop-number : goal.invariant-loop-number
invariant-loop-number l =
    waits_of l.initial.more.items ++ waits_of (drop l.from l.waiting) ≡ waits_of l.more.items ++ waits_of (drop l.number l.waiting)
