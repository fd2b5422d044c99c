use Rattle.std.proofs.Common.{◌≡◌}
use Rattle.clause_learning.specs.Trail.{Holds}
use Rattle.clause_learning.specs.Covers.{RisesFrom, last_level}
use Rattle.plain_solver.proofs.SettleLaws.{unset_all}
use Rattle.plain_solver.proofs.engine.settle.Given as goal

abbrev pub invariant-search : goal.invariant-search
invariant-search l = record {
  holds : Holds l.known l.at l.trail.entries.items;
  rises : RisesFrom 0 l.trail.entries.items;
  level : last_level 0 l.trail.entries.items ≡ l.at;
  vars : l.trail.vars.items ≡ l.initial.trail.vars.items;
}

abbrev pub decreases-search : goal.decreases-search
decreases-search l = unset_all l.trail.entries.items l.known
