-- Different things have different cells.
use Rattle.std.specs.Prelude.{ℕ, ◌+◌, ◌<◌, ◌≡◌, List, Some, slice_get}
use Rattle.lv_base.specs.declared.kind.Model.{Model}
use Rattle.c_typed.specs.declared.tree.Object.{Object}
use Rattle.slot_code.specs.declared.flat.Instruction.{Instruction}
use Rattle.code_layout.specs.Layout.{Lay, elements_of, slot_cell, drawn_cell, layout_of}

-- What has a cell: an element of an object, by their numbers; a slot; the draws of a width; the index that is kept.
pub data Thing : Type 0 where
  OfElement : (object element : ℕ) → Thing
  OfSlot : (slot : ℕ) → Thing
  OfDraws : (width : ℕ) → Thing
  OfIndex : Thing

-- an element of this object, whose first cell is this one
pub record IsElement (objects : List Object) (l : Lay) (object element cell : ℕ) : Type 0 where
  pub told : Object
  pub first : ℕ
  pub there : slice_get objects object ≡ Some told
  pub begins : slice_get l.firsts object ≡ Some first
  pub within : element < elements_of told
  pub is : cell ≡ first + element

-- the cell is that of the thing
abbrev pub IsCellOf : List Object → Lay → Thing → ℕ → Type 0
IsCellOf objects l (OfElement object element) cell = IsElement objects l object element cell
IsCellOf objects l (OfSlot slot) cell = slot_cell l slot ≡ Some cell
IsCellOf objects l (OfDraws width) cell = drawn_cell l width ≡ Some cell
IsCellOf objects l OfIndex cell = l.index ≡ Some cell

-- no cell is that of two things
abbrev pub Differ : List Object → Lay → Type 0
Differ objects l = (x y : Thing) (cell : ℕ) → IsCellOf objects l x cell → IsCellOf objects l y cell → x ≡ y

-- So it is in the layout of any code.
abbrev pub CellsDiffer : Type 0
CellsDiffer = (objects : List Object) (model : Model) (code : List Instruction) (slots : ℕ) → Differ objects (layout_of objects model code slots)
