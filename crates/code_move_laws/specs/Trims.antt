-- Instructions that put values of slots into objects: an element gets the low bits of the value, so the object keeps the value of its
-- kind that has these low bits.
use Rattle.std.specs.Prelude.{ℕ, suc, List, [], ◌∷◌, map, slice_set, ℤ}
use Rattle.lv_base.specs.declared.kind.Model.{Model}
use Rattle.c_run.specs.Run.{padded}
use Rattle.typed_range_laws.specs.Ways.{Agrees, Suits}
use Rattle.slot_code.specs.declared.flat.Instruction.{Instruction}
use Rattle.slot_code.specs.declared.flat.Instruction.TheVariants as i
use Rattle.slot_code.specs.Slots.{get, put, slots_from}
use Rattle.slot_laws.specs.Laws.{IsShaped}
use Rattle.c_graph.specs.Shape.{widths_of}
use Rattle.code_moves.specs.Setting.{Setting}
use Rattle.code_moves.specs.Moves.{moves_of}
use Rattle.layout_laws.specs.Serve.{Serves}
use Rattle.code_move_laws.specs.Mirrors.{IsLaid, Mirrors, row}
use Rattle.code_move_laws.specs.Doing.{Reaches}
use Rattle.code_move_laws.specs.Ways.{objects_of, converting, trimming, number_picked, graph_way}

-- The graph's way suits objects that lie among the cells: a value of an object's kind stays as it is, an index picks the element of
-- this number, and of two values of one kind the equal ones are the same.
abbrev pub GraphWaySuits : Type 0
GraphWaySuits = (g : Setting) → IsLaid g → Suits g.model (objects_of g) (graph_way g)

-- Arithmetic that converts its operands first is C's where they are of the kind.
abbrev pub ConvertingAgrees : Type 0
ConvertingAgrees = (model : Model) → Agrees model (λ op kind a b. converting model op kind a b)

-- the instruction's deeds lead to a store that mirrors these slots and values
abbrev pub LeadsTo : Setting → Instruction → List ℕ → List ℤ → List (List ℤ) → Type 0
LeadsTo g x store slots values = (after : List ℕ) × Reaches (widths_of g.lay.cells) (moves_of g x) store [] after [] × Mirrors g slots values after

-- The element that a slot picks gets what becomes of the value, and the slot gets the value.
abbrev pub StoresTrim : Type 0
StoresTrim =
    (g : Setting) (slots : List ℤ) (values : List (List ℤ)) (store : List ℕ) (slot object : ℕ) → IsLaid g → Serves g.model g.objects g.lay (i.Store slot object)
    → Mirrors g slots values store
    → LeadsTo g (i.Store slot object) store (put slots slot (get slots (suc slot)))
    (slice_set values object (slice_set (row values object) (number_picked g object (get slots slot)) (trimming g.model (objects_of g) object (get slots (suc slot)))))

-- An object gets what becomes of the values of so many slots, and 0 in each element that is left.
abbrev pub BeginsTrim : Type 0
BeginsTrim =
    (g : Setting) (slots : List ℤ) (values : List (List ℤ)) (store : List ℕ) (slot object count number : ℕ) → IsLaid g → Serves g.model g.objects g.lay (i.Begin slot object count number)
    → IsShaped (objects_of g) (i.Begin slot object count number) → Mirrors g slots values store
    → LeadsTo g (i.Begin slot object count number) store slots (slice_set values object (padded count (map (λ v. trimming g.model (objects_of g) object v) (slots_from slots slot number))))

-- A scalar gets what becomes of a slot's value.
abbrev pub BindsTrim : Type 0
BindsTrim =
    (g : Setting) (slots : List ℤ) (values : List (List ℤ)) (store : List ℕ) (slot object : ℕ) → IsLaid g → Serves g.model g.objects g.lay (i.Bind slot object)
    → IsShaped (objects_of g) (i.Bind slot object) → Mirrors g slots values store
    → LeadsTo g (i.Bind slot object) store slots (slice_set values object (trimming g.model (objects_of g) object (get slots slot) ∷ []))
