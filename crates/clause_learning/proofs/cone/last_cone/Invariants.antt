use Rattle.std.proofs.Common.{◌≡◌, ◌+◌, length}
use Rattle.clause_learning.specs.Cuts.{GivenNeeded}
use Rattle.clause_learning.proofs.cone.last_cone.Given as goal

abbrev pub invariant-loop : goal.invariant-loop
invariant-loop l = record {
  given : GivenNeeded l.base l.marks.items;
  so_far : length l.marks.items ≡ l.base + l.counter;
}
