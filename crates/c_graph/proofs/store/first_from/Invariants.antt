use Rattle.std.proofs.Common.{◌≡◌, ◌≤◌, ◌<◌, ◌-◌, ℕ, drop, length, slice_index_or}
use Rattle.c_graph.specs.declared.store.Named.{Named}
use Rattle.c_graph.specs.Stores.{kept_for}
use Rattle.c_graph.proofs.store.first_from.Given as goal

abbrev pub invariant-loop-low : goal.invariant-loop-low
invariant-loop-low l =
    (l.low ≤ l.high) × (l.high ≤ length l.named)
    × (kept_for l.named l.cell ≡ kept_for (drop l.low l.named) l.cell)
    × ((k : ℕ) (e : Named) → l.high ≤ k → k < length l.named → l.cell ≤ (slice_index_or l.named k e).cell)

abbrev pub decreases-loop-low : goal.decreases-loop-low
decreases-loop-low l = l.high - l.low
