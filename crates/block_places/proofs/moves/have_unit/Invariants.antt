use Rattle.std.proofs.Common.{◌≡◌, ◌-◌, ◌<◌, ◌≤◌, ℕ, Some}
use Rattle.plan_tables.specs.Tables.{unit_at}
use Rattle.block_places.specs.Made as made
use Rattle.block_places.proofs.moves.have_unit.Given as goal

abbrev pub invariant-loop-cell : goal.invariant-loop-cell
invariant-loop-cell l =
    ((c : ℕ) → l.first ≤ c → c < l.cell → unit_at l.known.units c ≡ Some l.unit)
    × (made.have_unit l.known l.first l.end l.unit ≡ made.units_from l.known l.unit (l.end - l.cell) l.cell)
