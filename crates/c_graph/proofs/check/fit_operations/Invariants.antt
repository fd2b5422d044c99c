use Rattle.std.proofs.Common.{take, All}
use Rattle.c_graph.specs.Shape.{OperationFits}
use Rattle.c_graph.proofs.check.fit_operations.Given as goal

abbrev pub invariant-loop-operation : goal.invariant-loop-operation
invariant-loop-operation l = All (OperationFits l.terms) (take l.operation-index l.operations)
