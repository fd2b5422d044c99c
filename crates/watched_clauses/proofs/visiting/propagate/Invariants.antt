use Rattle.std.proofs.Common.{◌≡◌, ℕ, ◌+◌, ◌-◌, ◌*◌, ◌<◌, ◌≤◌, List, length}
use Rattle.watched_clauses.specs.Kept.{KeepsWatch, IsLinked}
use Rattle.watched_clauses.proofs.visiting.propagate.Given as goal

abbrev pub invariant-queue : goal.invariant-queue
invariant-queue l = record {
  watching : KeepsWatch l.rows l.watches l.lists l.trail l.level l.at;
  head : l.at ≤ length l.trail.codes.items;
  lists : length l.lists ≡ length l.trail.truth.items;
  linked : (vars : List ℕ) → IsLinked vars l.rows l.level l.initial.trail → IsLinked vars l.rows l.level l.trail;
  grown : length l.initial.trail.codes.items ≤ length l.trail.codes.items;
  wide : length l.trail.truth.items ≡ length l.initial.trail.truth.items;
}

abbrev pub decreases-queue : goal.decreases-queue
decreases-queue l = length l.initial.trail.truth.items - l.at
