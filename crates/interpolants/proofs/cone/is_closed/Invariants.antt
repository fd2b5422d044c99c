use Rattle.std.proofs.Common.{◌≡◌, ◌<◌, ℕ, Some, true, false, slice_get, slice_index_or}
use Rattle.resolution_log.specs.declared.Chain.{Chain}
use Rattle.interpolants.specs.Sources.{IsNeeded, Names}
use Rattle.interpolants.proofs.cone.is_closed.Given as goal

abbrev pub invariant-loop-place : goal.invariant-loop-place
invariant-loop-place l =
    (k : ℕ) (ch : Chain) (m : ℕ) → k < l.place → slice_get l.chains k ≡ Some ch → slice_index_or l.needed k false ≡ true → Names ch m
    → IsNeeded l.clauses l.needed m
