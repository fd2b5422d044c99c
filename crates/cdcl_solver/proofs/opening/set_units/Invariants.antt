use Rattle.std.proofs.Common.{◌≡◌, ℕ, List, length}
use Rattle.watched_clauses.specs.Kept.{IsLinked}
use Rattle.cdcl_solver.specs.Opening.{UnitsMet}
use Rattle.cdcl_solver.proofs.opening.set_units.Given as goal

abbrev pub invariant-loop-number : goal.invariant-loop-number
invariant-loop-number l = record {
  linked : (vars : List ℕ) → IsLinked vars l.rows 0 l.initial.trail → IsLinked vars l.rows 0 l.trail;
  met : UnitsMet l.watches l.number l.trail;
  wide : length l.trail.levels.items ≡ length l.initial.trail.levels.items;
}
