use Rattle.std.proofs.Common.{◌≡◌, ℕ, ◌<◌, false}
use Rattle.clause_learning.specs.Trail.{below_of}
use Rattle.plain_solver.proofs.engine.least_level.Given as goal

abbrev pub invariant-loop-k : goal.invariant-loop-k
invariant-loop-k l = (j : ℕ) → j < l.k → below_of j l.trail.entries.items l.uip l.clause ≡ false
