use Rattle.std.proofs.Common.{◌≡◌, ℕ, ◌<◌, true, false, take, length, slice_index_or}
use Rattle.prop.specs.Trues.{listed}
use Rattle.resolution_log.proofs.numbering.mark_each.Given as goal

abbrev pub invariant-loop-var : goal.invariant-loop-var
invariant-loop-var l = (v : ℕ) → v < length l.marks → listed (take l.var-index l.vars) v ≡ true → slice_index_or l.marks v false ≡ true
