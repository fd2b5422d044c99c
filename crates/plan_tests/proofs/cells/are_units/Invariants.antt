use Rattle.std.proofs.Common.{◌≡◌, ◌-◌}
use Rattle.plan_tests.specs.Made as made
use Rattle.plan_tests.proofs.Uniting.{Risen}
use Rattle.plan_tests.proofs.cells.are_units.Given as goal

abbrev pub invariant-loop-cell : goal.invariant-loop-cell
invariant-loop-cell l =
    Risen l.units l.cell l.last l.count
    × (made.are_units l.units l.cells l.count ≡ made.units_from l.units l.count (l.cells - l.cell) l.cell l.last)
