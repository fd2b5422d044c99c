use Rattle.std.proofs.Common.{◌≡◌, ◌<◌, ◌≤◌, ℕ, true}
use Rattle.cover_engine.specs.Openings.{Widens, waits}
use Rattle.cover_engine.proofs.waiting.wait_from.Given as goal

abbrev pub invariant-loop-number : goal.invariant-loop-number
invariant-loop-number l = ((k : ℕ) → l.first ≤ k → k < l.number → waits l.waiting k ≡ true) × Widens l.initial.waiting l.waiting
