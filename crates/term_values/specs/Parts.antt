-- The part of a cone that is there while it is gathered.
use Rattle.std.specs.Prelude.{ℕ, ◌<◌, ◌≡◌, List, length, slice_index, nat_eq, Some}
use Rattle.std.specs.HashMap.{get}
use Rattle.bv_term.specs.WellFormed.{Table, IsTable, widths}
use Rattle.bv_term.specs.Values.{values}
use Rattle.term_values.specs.declared.part.Part.{Part}
use Rattle.term_values.specs.Cones.{over}
use Rattle.term_values.specs.Steps.{steps_of}

-- a term of the cone is as wide as one of the table, and in each store of the same value
pub record Stands (table cone : Table) (term at : ℕ) : Type 0 where
  pub there : at < length cone.terms
  pub width : slice_index (widths cone) at ≡ slice_index (widths table) term
  pub value : (store : List ℕ) → slice_index (values cone store) at ≡ slice_index (values table store) term

-- the terms that stand there
abbrev pub cone_of : Table → Part → Table
cone_of table part = over table (steps_of part.sources.items part.shapes.terms)

-- the terms that stand there are well formed, have the widths of what stands for them, and each that has a number stands there
pub record IsPart (table : Table) (part : Part) : Type 0 where
  pub paired : length part.sources.items ≡ length part.shapes.terms
  pub made : IsTable (cone_of table part)
  pub widths : widths part.shapes ≡ widths (cone_of table part)
  pub placed : (term at : ℕ) → get nat_eq part.places term ≡ Some at → Stands table (cone_of table part) term at
