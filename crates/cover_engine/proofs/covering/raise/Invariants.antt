use Rattle.std.proofs.Common.{◌≡◌, ◌+◌, ◌<◌, ℕ, drop, length, get_or}
use Rattle.cover_engine.specs.Caches.{times}
use Rattle.cover_engine.proofs.covering.raise.Given as goal

abbrev pub invariant-loop-number : goal.invariant-loop-number
invariant-loop-number l = (length l.counts.items ≡ length l.initial.counts.items) × ((z : ℕ) → z < length l.initial.counts.items → get_or l.counts.items z 0 + times z (drop l.number-index l.numbers) ≡ get_or l.initial.counts.items z 0 + times z l.numbers)
