use Rattle.std.proofs.Common.{◌≡◌}
use Rattle.cdcl_solver.specs.Opening.{Built}
use Rattle.cdcl_solver.proofs.opening.watch_all.Given as goal

abbrev pub invariant-loop-number : goal.invariant-loop-number
invariant-loop-number l = Built l.rows l.watches.items l.lists l.codes l.number
