use Rattle.std.proofs.Common.{◌≡◌, ◌<◌, ℕ, true, slice_get, take}
use Rattle.block_follow.specs.Made as made
use Rattle.block_follow.proofs.growth.same_loops.Given as goal

abbrev pub invariant-loop-number : goal.invariant-loop-number
invariant-loop-number l =
    ((k : ℕ) → k < l.number → slice_get l.new k ≡ slice_get l.old k) × (made.begins_with made.same_loop (take l.number l.old) l.new ≡ true)
