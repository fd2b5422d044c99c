use Rattle.std.proofs.Common.{◌≡◌, ◌++◌, drop}
use Rattle.path_laws.specs.Values.{signs_of}
use Rattle.refine.proofs.values.push_signs.Given as goal

abbrev pub invariant-loop-operation : goal.invariant-loop-operation
invariant-loop-operation l = l.signs.items ++ signs_of (drop l.operation-index l.operations) ≡ l.initial.signs.items ++ signs_of l.operations
