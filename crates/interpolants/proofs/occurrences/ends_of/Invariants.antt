use Rattle.std.proofs.Common.{◌≡◌, ℕ, true, drop, length, slice_index}
use Rattle.prop.specs.Trues.{listed}
use Rattle.resolution_log.specs.Codes.{place}
use Rattle.interpolants.specs.Sources.{last_end}
use Rattle.interpolants.proofs.occurrences.ends_of.Given as goal

abbrev pub invariant-loop-number : goal.invariant-loop-number
invariant-loop-number l = record {
  long : length l.ends.items ≡ length l.vars;
  told : (x : ℕ) → listed l.vars x ≡ true
      → last_end (slice_index l.ends.items (place l.vars x)) l.number (drop l.number l.clauses) x ≡ last_end 0 0 l.clauses x;
}
