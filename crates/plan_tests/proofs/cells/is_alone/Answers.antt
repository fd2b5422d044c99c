use Rattle.std.proofs.Common.{◌≡◌, Some, sym}
use Rattle.plan_tables.specs.Tables.{unit_at}
use Rattle.plan_tests.proofs.Covering.{unit_there}
use Rattle.plan_tests.proofs.Uniting.{alone}
use Rattle.plan_tests.proofs.cells.is_alone.Goals as goal

pub returns-then-is_last-clause-tells : goal.returns-then-is_last-clause-tells
returns-then-is_last-clause-tells c y =
    let there : unit_at c.args.units.now c.args.cell ≡ Some c.args.unit = unit_there c.args.units.now c.args.cell c.args.unit (sym c.if-not-is_unit.ensures) in
    alone c.args.units.now c.args.cell c.args.unit c.requires there (c.is_last.ensures.tells c.if-is_last.true) (c.is_first.ensures.tells y)
