-- What holds of the cells of a layout.
use Rattle.std.specs.Prelude.{ℕ, ◌<◌, ◌≡◌, List, length, Some, slice_get, slice_index}
use Rattle.lv_base.specs.declared.kind.Model.{Model}
use Rattle.lv_base.specs.Integers.{width_of}
use Rattle.bv_term.specs.WellFormed.{IsArray}
use Rattle.c_typed.specs.declared.tree.Object.{Object}
use Rattle.slot_code.specs.declared.flat.Instruction.{Instruction}
use Rattle.c_graph.specs.Shape.{widths_of}
use Rattle.code_layout.specs.Layout.{Lay, elements_of, slot_cell, drawn_cell, layout_of}

-- the cell is there, and so wide
abbrev pub IsWide : List ℕ → ℕ → ℕ → Type 0
IsWide cells cell w = (cell < length cells) × (slice_index cells cell ≡ w)

-- Over cells of these widths: the elements of an object are an array of its kind's width, slots have cells of 64 bits, draws of a
-- width have one of that width, and an index has one of 64.
pub record Lies (model : Model) (objects : List Object) (l : Lay) (cells : List ℕ) : Type 0 where
  pub elements : (k first : ℕ) (o : Object) → slice_get objects k ≡ Some o → slice_get l.firsts k ≡ Some first
      → IsArray cells first (elements_of o) × (slice_index cells first ≡ width_of o.kind model)
  pub slots : (slot cell : ℕ) → slot_cell l slot ≡ Some cell → IsWide cells cell 64
  pub draws : (w cell : ℕ) → drawn_cell l w ≡ Some cell → IsWide cells cell w
  pub index : (cell : ℕ) → l.index ≡ Some cell → IsWide cells cell 64

-- So it is in the layout of any code.
abbrev pub LayoutsLie : Type 0
LayoutsLie = (objects : List Object) (model : Model) (code : List Instruction) (slots : ℕ) → Lies model objects (layout_of objects model code slots) (widths_of (layout_of objects model code slots).cells)
