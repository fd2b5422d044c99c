use Rattle.std.proofs.Common.{◌≡◌, ◌<◌, ℕ, Some, slice_get}
use Rattle.interpolants.specs.Sources.{IsNeeded}
use Rattle.interpolants.proofs.cone.are_marked.Given as goal

abbrev pub invariant-loop-pair : goal.invariant-loop-pair
invariant-loop-pair l =
    (i : ℕ) (p : ℕ × ℕ) → i < l.pair-index → slice_get l.chain.pairs i ≡ Some p → IsNeeded l.clauses l.needed p.1
