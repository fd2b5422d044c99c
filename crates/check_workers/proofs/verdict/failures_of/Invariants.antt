use Rattle.std.proofs.Common.{All}
use Rattle.check_workers.specs.Working.{IsFailure}
use Rattle.check_workers.proofs.verdict.failures_of.Given as goal

abbrev pub invariant-loop-one : goal.invariant-loop-one
invariant-loop-one l = All (IsFailure l.task.graph.now l.task.map.now l.task.logs.now) l.failures.items
