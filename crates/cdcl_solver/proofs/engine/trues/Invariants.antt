use Rattle.std.proofs.Common.{◌≡◌, ◌++◌, drop}
use Rattle.clause_learning.specs.Solve.{trues_of}
use Rattle.dense_trail.specs.Dense.{entries_of}
use Rattle.cdcl_solver.proofs.engine.trues.Given as goal

abbrev pub invariant-loop-code : goal.invariant-loop-code
invariant-loop-code l = l.out.items ++ trues_of (entries_of l.vars l.trail.levels.items l.trail.reasons.items (drop l.code-index l.trail.codes.items)) ≡ trues_of (entries_of l.vars l.trail.levels.items l.trail.reasons.items l.trail.codes.items)
