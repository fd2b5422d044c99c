use Rattle.std.proofs.Common.{◌≡◌, ◌≤◌, vec_len, List}
use Rattle.prop.specs.declared.Lit.{Lit}
use Rattle.clause_learning.specs.Trail.{Back}
use Rattle.clause_learning.specs.Covers.{RisesFrom, last_level}
use Rattle.plain_solver.proofs.engine.jump.Given as goal

abbrev pub invariant-loop-trail : goal.invariant-loop-trail
invariant-loop-trail l = record {
  back : (known : List (List Lit)) → Back known l.low l.initial.trail.entries.items l.initial.trail.entries.items → Back known l.low l.initial.trail.entries.items l.trail.entries.items;
  rises : RisesFrom 0 l.trail.entries.items;
  low : l.low ≤ last_level 0 l.trail.entries.items;
  vars : l.trail.vars.items ≡ l.initial.trail.vars.items;
}

abbrev pub decreases-loop-trail : goal.decreases-loop-trail
decreases-loop-trail l = vec_len l.trail.entries
