use Rattle.std.proofs.Common.{◌≡◌, ℕ, take}
use Rattle.cdcl_solver.specs.Learning.{IsHighest}
use Rattle.cdcl_solver.proofs.learning.what_to_watch.Given as goal

abbrev pub invariant-loop-code : goal.invariant-loop-code
invariant-loop-code l = IsHighest l.trail.levels.items (take l.code-index l.clause) l.uip l.uip l.second l.low
