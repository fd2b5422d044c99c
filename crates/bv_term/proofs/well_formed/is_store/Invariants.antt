use Rattle.std.proofs.Common.{◌<◌, ◌^◌, slice_index, ℕ}
use Rattle.bv_term.proofs.well_formed.is_store.Given as goal

abbrev pub invariant-loop-number : goal.invariant-loop-number
invariant-loop-number l = (k : ℕ) → k < l.number → slice_index l.store k < 2 ^ slice_index l.cells k
