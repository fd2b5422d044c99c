use Rattle.std.proofs.Common.{◌-◌, length}
use Rattle.cdcl_solver.specs.Search.{StateOf}
use Rattle.cdcl_solver.proofs.engine.search.Given as goal

abbrev pub invariant-rounds : goal.invariant-rounds
invariant-rounds l = StateOf l.clauses l.learn l.limit l.s

abbrev pub decreases-rounds : goal.decreases-rounds
decreases-rounds l = l.learn - length l.s.log
