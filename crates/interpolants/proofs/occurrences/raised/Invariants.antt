use Rattle.std.proofs.Common.{◌≡◌, ◌<◌, ◌≤◌, ◌⊎◌, ℕ, true, drop}
use Rattle.prop.specs.Trues.{listed}
use Rattle.resolution_log.specs.Codes.{vars_of}
use Rattle.interpolants.proofs.occurrences.raised.Given as goal

abbrev pub invariant-loop-lit : goal.invariant-loop-lit
invariant-loop-lit l = record {
  rises : l.bound ≤ l.most;
  over : (x : ℕ) → listed (vars_of l.clause) x ≡ true → (x < l.most) ⊎ (listed (vars_of (drop l.lit-index l.clause)) x ≡ true);
}
