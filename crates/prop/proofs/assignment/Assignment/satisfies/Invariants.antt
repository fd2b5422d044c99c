use Rattle.std.proofs.Common.{◌≡◌, drop}
use Rattle.prop.specs.Trues.{listed}
use Rattle.prop.specs.Logic.{all_hold}
use Rattle.prop.proofs.assignment.Assignment.satisfies.Given as goal

abbrev pub invariant-loop-number : goal.invariant-loop-number
invariant-loop-number l = all_hold (listed l.self) l.clauses ≡ all_hold (listed l.self) (drop l.number l.clauses)
