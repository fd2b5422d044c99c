use Rattle.std.proofs.Common.{◌≡◌, ◌<◌, ℕ, length, slice_index}
use Rattle.interpolants.proofs.occurrences.all_below.Given as goal

abbrev pub invariant-loop-var : goal.invariant-loop-var
invariant-loop-var l = record {
  long : length l.vars.items ≡ l.var;
  same : (k : ℕ) → k < l.var → slice_index l.vars.items k ≡ k;
}
