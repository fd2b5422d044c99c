use Rattle.std.proofs.Common.{◌≡◌, drop}
use Rattle.prop.specs.Trues.{listed}
use Rattle.prop.specs.Logic.{clause_holds}
use Rattle.prop.proofs.assignment.Assignment.clause.Given as goal

abbrev pub invariant-loop-l : goal.invariant-loop-l
invariant-loop-l l = clause_holds (listed l.self) l.c ≡ clause_holds (listed l.self) (drop l.l-index l.c)
