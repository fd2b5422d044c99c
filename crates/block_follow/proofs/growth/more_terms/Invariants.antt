use Rattle.std.proofs.Common.{◌≡◌, ◌<◌, ℕ, true, slice_get, take}
use Rattle.block_follow.specs.Made as made
use Rattle.block_follow.proofs.growth.more_terms.Given as goal

abbrev pub invariant-loop-number : goal.invariant-loop-number
invariant-loop-number l =
    ((k : ℕ) → k < l.number → slice_get l.new.terms k ≡ slice_get l.old.terms k)
    × (made.begins_with made.same_term (take l.number l.old.terms) l.new.terms ≡ true)
