use Rattle.std.proofs.Common.{◌≡◌, ◌+◌, ℕ, drop, get_or}
use Rattle.cover_engine.specs.Caches.{rights, times}
use Rattle.cover_engine.proofs.pairs.lower_onto.Given as goal

abbrev pub invariant-loop-pair : goal.invariant-loop-pair
invariant-loop-pair l = (z : ℕ) → get_or l.counts.items z 0 + times z (rights l.pairs) ≡ get_or l.initial.counts.items z 0 + times z (rights (drop l.pair-index l.pairs))
