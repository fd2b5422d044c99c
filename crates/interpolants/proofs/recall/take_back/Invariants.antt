use Rattle.std.proofs.Common.{ℕ, ◌<◌, ◌≤◌, slice_index_or}
use Rattle.interpolants.specs.declared.items.Mark.{Mark}
use Rattle.interpolants.proofs.recall.take_back.Given as goal

abbrev pub invariant-loop-mark : goal.invariant-loop-mark
invariant-loop-mark l = (k : ℕ) (d : Mark) → k < l.mark-index → (slice_index_or l.marks k d).epoch ≤ 0
