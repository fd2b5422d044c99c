use Rattle.std.proofs.Common.{◌≡◌, ◌<◌, ◌≤◌, ℕ, false, length}
use Rattle.cover_engine.specs.Openings.{opens}
use Rattle.cover_engine.proofs.waiting.highest_by_number.Given as goal

abbrev pub invariant-loop-left : goal.invariant-loop-left
invariant-loop-left l = (l.left ≤ length l.tree.vertices) × ((k : ℕ) → l.left ≤ k → k < length l.tree.vertices → opens l.nodes l.tree.terms l.tree.vertices l.covers k ≡ false)

abbrev pub decreases-loop-left : goal.decreases-loop-left
decreases-loop-left l = l.left
