use Rattle.std.proofs.Common.{◌≡◌, ℕ, ◌-◌, ◌≤◌, List, length}
use Rattle.watched_clauses.specs.Kept.{KeepsWatch, IsLinked}
use Rattle.cdcl_solver.proofs.board.run_on.Given as goal

abbrev pub invariant-search : goal.invariant-search
invariant-search l = record {
  watching : KeepsWatch l.rows l.watches l.lists l.trail l.level l.head;
  within : l.head ≤ length l.trail.codes.items;
  all : length l.lists ≡ length l.trail.truth.items;
  linked : (vars : List ℕ) → IsLinked vars l.rows l.initial.level l.initial.trail → IsLinked vars l.rows l.level l.trail;
  deep : l.level ≤ length l.trail.codes.items;
  ordered : length l.order.phases.items ≡ length l.trail.levels.items;
}

abbrev pub decreases-search : goal.decreases-search
decreases-search l = length l.trail.truth.items - length l.trail.codes.items
