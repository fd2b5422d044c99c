use Rattle.std.proofs.Common.{◌≡◌, ◌++◌, drop}
use Rattle.clause_learning.specs.Solve.{trues_of}
use Rattle.plain_solver.proofs.engine.trues.Given as goal

abbrev pub invariant-loop-e : goal.invariant-loop-e
invariant-loop-e l = l.vars.items ++ trues_of (drop l.e-index l.entries) ≡ trues_of l.entries
