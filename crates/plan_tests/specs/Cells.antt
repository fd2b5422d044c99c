-- The units of cells.
use Rattle.std.specs.Prelude.{ℕ, ◌<◌, ◌≤◌, ◌≡◌, Some}
use Rattle.plan_tables.specs.Tables.{UnitTable, unit_at}

-- the units of later cells are not below those of earlier ones
abbrev pub IsRising : UnitTable → Type 0
IsRising units = (c d u v : ℕ) → c ≤ d → unit_at units c ≡ Some u → unit_at units d ≡ Some v → u ≤ v

-- and each unit is below a count
pub record AreUnits (units : UnitTable) (count : ℕ) : Type 0 where
  pub rising : IsRising units
  pub below : (c u : ℕ) → unit_at units c ≡ Some u → u < count

-- a cell's unit, which is not below the last one, and below a count
abbrev pub IsNext : UnitTable → ℕ → ℕ → ℕ → ℕ → Type 0
IsNext units c last count u = (unit_at units c ≡ Some u) × (last ≤ u) × (u < count)

-- no other cell has this unit
abbrev pub IsAlone : UnitTable → ℕ → ℕ → Type 0
IsAlone units d unit = (c : ℕ) → unit_at units c ≡ Some unit → c ≡ d
