use Rattle.std.proofs.Common.{rules, ◌≡◌, ◌-◌, ◌∙◌, None, arith, sym, subst, ap, ℕ}
use Rattle.plan_tables.specs.Tables.{unit_at}
use Rattle.plan_tests.specs.Made as made
use Rattle.plan_tests.proofs.Deciding.{units-end, units-more, units-not}
use Rattle.plan_tests.proofs.Uniting.{Risen, all_risen, none_risen, one_risen}
use Rattle.plan_tests.proofs.cells.are_units.Goals as goal

pub loop-cell-init : goal.loop-cell-init
loop-cell-init c =
    let all : c.args.cells ≡ c.args.cells - 0 = omega arith in
    (none_risen c.args.units.now 0 c.args.count, ap (λ (n : ℕ). made.units_from c.args.units.now c.args.count n 0 0) all)

pub loop-cell-preserved : goal.loop-cell-preserved
loop-cell-preserved c = (
  one_risen c.args.units.now c.loop-cell.cell c.loop-cell.last c.args.count c.in-Some.unit c.in-Some.ensures.tells c.loop-cell.invariant.0,
  units-more c.args.units.now c.args.count c.args.cells c.loop-cell.cell c.loop-cell.last c.in-Some.unit
      (made.are_units c.args.units.now c.args.cells c.args.count) c.loop-cell-test.true (sym c.in-Some.ensures.made) c.loop-cell.invariant.1,
)

pub returns-in_default-clause-made : goal.returns-in_default-clause-made
returns-in_default-clause-made c =
    units-not c.args.units.now c.args.count c.args.cells c.loop-cell.cell c.loop-cell.last (made.are_units c.args.units.now c.args.cells c.args.count)
    c.loop-cell-test.true (sym c.in_default.ensures.made) c.loop-cell.invariant.1

pub returns-clause-tells : goal.returns-clause-tells
returns-clause-tells c y =
    let end : c.loop-cell.cell ≡ c.args.cells = search rules in
    let none : unit_at c.args.units.now c.args.cells ≡ None = search rules in
    let risen : Risen c.args.units.now c.args.cells c.loop-cell.last c.args.count =
    subst (λ (n : ℕ). Risen c.args.units.now n c.loop-cell.last c.args.count) end c.loop-cell.invariant.0 in
    all_risen c.args.units.now c.args.cells c.loop-cell.last c.args.count none risen

pub returns-clause-made : goal.returns-clause-made
returns-clause-made c =
    let end : c.loop-cell.cell ≡ c.args.cells = search rules in
    let none : c.is_none.result ≡ made.has_none (unit_at c.args.units.now c.args.cells) = search rules in
    none ∙ units-end c.args.units.now c.args.count c.args.cells c.loop-cell.cell c.loop-cell.last
    (made.are_units c.args.units.now c.args.cells c.args.count) end c.loop-cell.invariant.1
