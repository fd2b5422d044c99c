-- A store of cells that says what the machine's slots and objects hold.
use Rattle.std.specs.Prelude.{ℕ, ◌+◌, ◌<◌, ◌≡◌, List, [], length, Some, slice_get, slice_index, slice_index_or, ℤ, pos}
use Rattle.lv_base.specs.declared.kind.Kind.{Kind}
use Rattle.lv_base.specs.declared.kind.Model.{Model}
use Rattle.lv_base.specs.Integers.{InRange, InAny, residue, width_of}
use Rattle.c_typed.specs.declared.tree.Object.{Object}
use Rattle.slot_code.specs.Slots.{get}
use Rattle.c_graph.specs.Shape.{widths_of}
use Rattle.c_graph.specs.Steps.{IsWhole}
use Rattle.code_layout.specs.Layout.{elements_of, slot_cell}
use Rattle.code_layout.specs.Lies.{Lies}
use Rattle.code_moves.specs.Setting.{Setting}
use Rattle.layout_laws.specs.Differ.{Differ}

-- All things lie among the cells, each in cells of its own, and each object has a first cell.
pub record IsLaid (g : Setting) : Type 0 where
  pub lies : Lies g.model g.objects g.lay (widths_of g.lay.cells)
  pub firsts : length g.lay.firsts ≡ length g.objects
  pub differ : Differ g.objects g.lay
  pub few : length g.lay.cells < 4294967296

-- the values of an object, and that of one of its elements
abbrev pub row : List (List ℤ) → ℕ → List ℤ
row values object = slice_index_or values object []

abbrev pub element_of : List (List ℤ) → ℕ → ℕ → ℤ
element_of values object element = slice_index_or (row values object) element (pos 0)

-- the cell holds the low bits of a value of the kind
abbrev pub Holds : Kind → Model → ℕ → ℤ → Type 0
Holds kind model cell value = (cell ≡ residue (width_of kind model) value) × InRange kind model value

-- The cells of slots hold the slots' values modulo two to the power of 64, and those of elements the low bits of the objects' values.
-- Each slot's value is of some kind, each object's values are of its kind, and an object has as many values as elements.
pub record Mirrors (g : Setting) (slots : List ℤ) (values : List (List ℤ)) (store : List ℕ) : Type 0 where
  pub whole : IsWhole (widths_of g.lay.cells) store
  pub any : (slot : ℕ) → InAny (get slots slot)
  pub slot : (slot cell : ℕ) → slot_cell g.lay slot ≡ Some cell → slice_index store cell ≡ residue 64 (get slots slot)
  pub objects : length values ≡ length g.objects
  pub rows : (object : ℕ) (o : Object) → slice_get g.objects object ≡ Some o → length (row values object) ≡ elements_of o
  pub elements :
      (object first element : ℕ) (o : Object) → slice_get g.objects object ≡ Some o → slice_get g.lay.firsts object ≡ Some first → element < elements_of o
      → Holds o.kind g.model (slice_index store (first + element)) (element_of values object element)
