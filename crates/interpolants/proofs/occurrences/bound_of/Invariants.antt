use Rattle.std.proofs.Common.{◌≡◌, ◌<◌, ◌⊎◌, ℕ, true, drop}
use Rattle.prop.specs.Trues.{listed}
use Rattle.resolution_log.specs.Codes.{all_vars}
use Rattle.interpolants.proofs.occurrences.bound_of.Given as goal

abbrev pub invariant-loop-number : goal.invariant-loop-number
invariant-loop-number l =
    (x : ℕ) → listed (all_vars l.clauses) x ≡ true → (x < l.bound) ⊎ (listed (all_vars (drop l.number l.clauses)) x ≡ true)
