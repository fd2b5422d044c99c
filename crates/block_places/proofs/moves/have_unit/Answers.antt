use Rattle.std.proofs.Common.{rules, ◌≡◌, ◌≤◌, ℕ, Some, sym, refl, arith, inl, inr, subst}
use Rattle.std.proofs.lemmas.Bool.{cases_eq}
use Rattle.plan_tables.specs.Tables.{unit_at}
use Rattle.block_places.specs.Made as made
use Rattle.block_places.proofs.Deciding.{units-end, units-more, units-not}
use Rattle.block_places.proofs.moves.have_unit.Goals as goal

pub loop-cell-preserved : goal.loop-cell-preserved
loop-cell-preserved c = (
  λ k le lt. elim (cases_eq k c.loop-cell.cell) [
    | inl e ↦ subst (λ (n : ℕ). unit_at c.args.known.now.units n ≡ Some c.args.unit) (sym e) (c.if-not-has_unit.ensures.tells refl)
    | inr ne ↦ c.loop-cell.invariant.0 k le (omega (arith, lt, ne))
  ],
  units-more c.args.known.now c.args.unit c.args.end c.loop-cell.cell (made.have_unit c.args.known.now c.args.first c.args.end c.args.unit)
      c.loop-cell-test.true (sym c.if-not-has_unit.ensures.made) c.loop-cell.invariant.1,
)

pub returns-then-not-has_unit-clause-made : goal.returns-then-not-has_unit-clause-made
returns-then-not-has_unit-clause-made c =
    units-not c.args.known.now c.args.unit c.args.end c.loop-cell.cell (made.have_unit c.args.known.now c.args.first c.args.end c.args.unit)
    c.loop-cell-test.true (sym c.if-not-has_unit.ensures.made) c.loop-cell.invariant.1

pub returns-clause-made : goal.returns-clause-made
returns-clause-made c =
    let past : c.args.end ≤ c.loop-cell.cell = search rules in
    units-end c.args.known.now c.args.unit c.args.end c.loop-cell.cell (made.have_unit c.args.known.now c.args.first c.args.end c.args.unit)
    past c.loop-cell.invariant.1
