use Rattle.std.proofs.Common.{◌≡◌, ◌+◌, ◌-◌, ℕ, length, get_or}
use Rattle.cover_engine.proofs.pairs.grow.Given as goal

abbrev pub invariant-loop-counts : goal.invariant-loop-counts
invariant-loop-counts l = (z : ℕ) → get_or l.counts.items z 0 ≡ get_or l.initial.counts.items z 0

abbrev pub decreases-loop-counts : goal.decreases-loop-counts
decreases-loop-counts l = (l.number + 1) - length l.counts.items
