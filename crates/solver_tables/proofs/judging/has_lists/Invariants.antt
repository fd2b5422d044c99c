use Rattle.std.proofs.Common.{◌≡◌, length}
use Rattle.solver_tables.proofs.judging.has_lists.Given as goal

abbrev pub invariant-loop-case : goal.invariant-loop-case
invariant-loop-case l = length l.lists ≡ 4
