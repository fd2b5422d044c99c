use Rattle.std.proofs.Common.{◌≡◌, take}
use Rattle.plain_solver.proofs.engine.copy_all.Given as goal

abbrev pub invariant-loop-number : goal.invariant-loop-number
invariant-loop-number l = l.known ≡ take l.number l.clauses
