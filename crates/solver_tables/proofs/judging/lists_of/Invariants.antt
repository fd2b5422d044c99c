use Rattle.std.proofs.Common.{◌≡◌, length}
use Rattle.solver_tables.proofs.judging.lists_of.Given as goal

abbrev pub invariant-loop-i : goal.invariant-loop-i
invariant-loop-i l = length l.lists ≡ 4
