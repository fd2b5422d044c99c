use Rattle.std.proofs.Common.{◌≡◌, ◌≤◌, ◌+◌, vec_len}
use Rattle.clause_learning.specs.Trail.{GoingSet}
use Rattle.clause_learning.specs.Covers.{RisesFrom, last_level}
use Rattle.plain_solver.proofs.analysis.analyze.Given as goal

abbrev pub invariant-loop-e : goal.invariant-loop-e
invariant-loop-e l = record {
  going : GoingSet l.known l.level l.trail.entries.items l.conflict l.d.items l.pairs;
  rises : RisesFrom 0 l.trail.entries.items;
  high : l.level ≤ last_level 0 l.trail.entries.items + 1;
  vars : l.trail.vars.items ≡ l.initial.trail.vars.items;
}

abbrev pub decreases-loop-e : goal.decreases-loop-e
decreases-loop-e l = vec_len l.trail.entries
