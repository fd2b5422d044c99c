use Rattle.std.proofs.Common.{◌≡◌, ℕ, ◌≤◌, List, length, vec_len}
use Rattle.prop.specs.declared.Lit.{Lit}
use Rattle.clause_learning.specs.Trail.{Back}
use Rattle.clause_learning.specs.Covers.{RisesFrom, last_level}
use Rattle.cdcl_solver.specs.Stops.{trail_entries}
use Rattle.cdcl_solver.proofs.board.go_back.Given as goal

abbrev pub invariant-back : goal.invariant-back
invariant-back l = record {
  back : (vars : List ℕ) (known : List (List Lit)) → Back known l.low (trail_entries vars l.initial.trail) (trail_entries vars l.initial.trail) → Back known l.low (trail_entries vars l.initial.trail) (trail_entries vars l.trail);
  rises : (vars : List ℕ) → RisesFrom 0 (trail_entries vars l.initial.trail) → l.low ≤ last_level 0 (trail_entries vars l.initial.trail) → RisesFrom 0 (trail_entries vars l.trail) × (l.low ≤ last_level 0 (trail_entries vars l.trail));
  levels : l.trail.levels.items ≡ l.initial.trail.levels.items;
  reasons : l.trail.reasons.items ≡ l.initial.trail.reasons.items;
  ordered : length l.order.phases.items ≡ length l.initial.order.phases.items;
  wide : length l.trail.truth.items ≡ length l.initial.trail.truth.items;
}

abbrev pub decreases-back : goal.decreases-back
decreases-back l = vec_len l.trail.codes
