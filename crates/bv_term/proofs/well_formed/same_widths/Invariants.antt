use Rattle.std.proofs.Common.{◌≡◌, ◌<◌, slice_index, ℕ}
use Rattle.bv_term.proofs.well_formed.same_widths.Given as goal

abbrev pub invariant-loop-cell : goal.invariant-loop-cell
invariant-loop-cell l = (k : ℕ) → k < l.cell-index → slice_index l.cells k ≡ l.width
