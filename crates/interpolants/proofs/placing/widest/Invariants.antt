use Rattle.std.proofs.Common.{ℕ, ◌<◌, ◌≤◌, length, slice_index_or}
use Rattle.path_query.specs.declared.query.Bundle.{Bundle}
use Rattle.interpolants.proofs.placing.widest.Given as goal

abbrev pub invariant-loop-bundle : goal.invariant-loop-bundle
invariant-loop-bundle l =
    (k : ℕ) (d : Bundle) → k < l.bundle-index → length (slice_index_or l.bundles k d).bits ≤ 128 → length (slice_index_or l.bundles k d).bits ≤ l.most
