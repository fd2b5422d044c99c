use Rattle.std.proofs.Common.{◌≡◌, ℕ, true, cond, drop, length, slice_index}
use Rattle.prop.specs.Trues.{listed}
use Rattle.resolution_log.specs.Codes.{place, vars_of}
use Rattle.interpolants.proofs.occurrences.note.Given as goal

abbrev pub invariant-loop-lit : goal.invariant-loop-lit
invariant-loop-lit l = record {
  long : length l.ends ≡ length l.vars;
  told : (x : ℕ) → listed l.vars x ≡ true
      → cond (listed (vars_of (drop l.lit-index l.clause)) x) l.end (slice_index l.ends (place l.vars x))
      ≡ cond (listed (vars_of l.clause) x) l.end (slice_index l.fn.ends (place l.vars x));
}
