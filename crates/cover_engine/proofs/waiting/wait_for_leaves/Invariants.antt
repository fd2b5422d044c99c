use Rattle.std.proofs.Common.{◌≡◌, ◌≤◌, ◌⊎◌, ℕ, [], true, drop}
use Rattle.reach_tree.specs.Trees.{vertex_at}
use Rattle.cover_engine.specs.Caches.{times}
use Rattle.cover_engine.specs.Openings.{Widens, waits}
use Rattle.cover_engine.proofs.waiting.wait_for_leaves.Given as goal

abbrev pub invariant-loop-number : goal.invariant-loop-number
invariant-loop-number l =
    ((k : ℕ) → 1 ≤ times k l.numbers → (vertex_at l.vertices k).children ≡ [] → (waits l.waiting k ≡ true) ⊎ (1 ≤ times k (drop l.number-index l.numbers)))
    × Widens l.initial.waiting l.waiting
