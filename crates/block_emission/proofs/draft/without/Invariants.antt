use Rattle.std.proofs.Common.{◌≡◌, ◌++◌, drop, take}
use Rattle.block_emission.specs.Putting as made
use Rattle.block_emission.proofs.draft.without.Given as goal

abbrev pub invariant-loop-number : goal.invariant-loop-number
invariant-loop-number l =
    (take l.number l.fn.waiting.items ++ made.without (drop l.number l.fn.waiting.items) l.node ≡ made.without l.fn.waiting.items l.node)
    × (l.waiting.items ≡ l.fn.waiting.items)
