-- What an instruction needs has a cell.
use Rattle.std.specs.Prelude.{ℕ, ◌+◌, ◌<◌, ◌≤◌, ◌≡◌, true, List, length, Some, slice_get}
use Rattle.lv_base.specs.declared.kind.Model.{Model}
use Rattle.lv_base.specs.Integers.{width_of}
use Rattle.c_typed.specs.declared.tree.Object.{Object}
use Rattle.slot_code.specs.declared.flat.Instruction.{Instruction}
use Rattle.slot_code.specs.declared.flat.Instruction.TheVariants as i
use Rattle.slot_code.specs.Slots.{slots_in}
use Rattle.code_layout.specs.Reading.{reads}
use Rattle.code_layout.specs.Layout.{Lay, slot_cell, drawn_cell, keeps, layout_of}

abbrev pub HasSlot : Lay → ℕ → Type 0
HasSlot l slot = (cell : ℕ) × (slot_cell l slot ≡ Some cell)

-- an input that an instruction draws into a slot has a cell of its width
abbrev pub HasDraw : Model → Lay → Instruction → Type 0
HasDraw model l (i.Draw slot k) = (cell : ℕ) × (drawn_cell l (width_of k model) ≡ Some cell)
HasDraw model l _ = Unit {0}

-- so do the slots that it reads, and the index that it keeps
pub record Serves (model : Model) (objects : List Object) (l : Lay) (x : Instruction) : Type 0 where
  pub slots : (k : ℕ) → k < (reads objects x).count → HasSlot l ((reads objects x).first + k)
  pub draw : HasDraw model l x
  pub index : keeps objects x ≡ true → (cell : ℕ) × (l.index ≡ Some cell)

-- So it is for each instruction of the code whose layout it is, and each object has a first cell.
abbrev pub CellsServe : Type 0
CellsServe =
    (objects : List Object) (model : Model) (code : List Instruction) (slots : ℕ) → slots_in code ≤ slots
    → ((place : ℕ) (x : Instruction) → slice_get code place ≡ Some x → Serves model objects (layout_of objects model code slots) x)
    × (length (layout_of objects model code slots).firsts ≡ length objects)
