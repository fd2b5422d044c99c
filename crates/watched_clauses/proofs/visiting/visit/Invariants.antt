use Rattle.std.proofs.Common.{◌≡◌, ℕ, ◌≤◌, List, length}
use Rattle.watched_clauses.specs.Kept.{IsLinked}
use Rattle.watched_clauses.specs.Passing.{Passing}
use Rattle.watched_clauses.proofs.visiting.visit.Given as goal

abbrev pub invariant-clauses : goal.invariant-clauses
invariant-clauses l = record {
  passing : Passing l.rows l.watches l.lists l.trail l.level l.head l.falsified l.list.items l.i;
  linked : (vars : List ℕ) → IsLinked vars l.rows l.level l.initial.trail → IsLinked vars l.rows l.level l.trail;
  grown : length l.initial.trail.codes.items ≤ length l.trail.codes.items;
  wide : length l.trail.truth.items ≡ length l.initial.trail.truth.items;
}

abbrev pub decreases-clauses : goal.decreases-clauses
decreases-clauses l = l.i
