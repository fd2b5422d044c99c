-- The layout of a code, with everything in its place.
use Rattle.std.specs.Prelude.{ℕ, ◌<◌, ◌≤◌, List, length}
use Rattle.lv_base.specs.declared.kind.Model.{Model}
use Rattle.c_typed.specs.declared.tree.Object.{Object}
use Rattle.slot_code.specs.declared.flat.Instruction.{Instruction}
use Rattle.slot_code.specs.Slots.{slots_in}
use Rattle.code_layout.specs.Layout.{layout_of}
use Rattle.code_moves.specs.Setting.{Setting}
use Rattle.code_move_laws.specs.Mirrors.{IsLaid}

-- objects, and the layout of a code over them
abbrev pub setting : List Object → Model → List Instruction → ℕ → Setting
setting objects model code slots = record { objects = objects; model = model; lay = layout_of objects model code slots }

-- where there are not too many cells
abbrev pub CodeIsLaid : Type 0
CodeIsLaid =
    (objects : List Object) (model : Model) (code : List Instruction) (slots : ℕ) → slots_in code ≤ slots → length (layout_of objects model code slots).cells < 4294967296
    → IsLaid (setting objects model code slots)
