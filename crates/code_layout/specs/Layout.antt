-- Where everything lies among the cells of a program's graphs.
use Rattle.std.specs.Prelude.{ℕ, suc, zero, ◌+◌, ◌==◌, max, Bool, true, false, not, ◌&&◌, ◌||◌, if◌then◌else◌, List, [], ◌∷◌, ◌++◌, length, replicate, Option, None, Some, slice_index_or}
use Rattle.lv_base.specs.declared.kind.Model.{Model}
use Rattle.lv_base.specs.Integers.{width_of}
use Rattle.c_typed.specs.declared.tree.Object.{Object}
use Rattle.slot_code.specs.declared.flat.Instruction.{Instruction}
use Rattle.slot_code.specs.declared.flat.Instruction.TheVariants as i
use Rattle.c_graph.specs.declared.graph.Cell.{Cell}
use Rattle.c_graph.specs.declared.graph.Origin.{Origin}
use Rattle.c_graph.specs.declared.graph.Origin.TheVariants.{Element, Saved}
use Rattle.code_layout.specs.declared.layout.DrawnAt.{DrawnAt}
use Rattle.code_layout.specs.Reading.{is_array, marks_behind}

-- the first cell of each object, the cell of each slot that has one, the cells into which values are drawn, the cell of an index
-- that is kept, and all cells
pub record Lay : Type 0 where
  pub firsts : List ℕ
  pub slots : List (Option ℕ)
  pub drawn : List DrawnAt
  pub index : Option ℕ
  pub cells : List Cell

-- how many elements an object has; a scalar is one
abbrev pub elements_of : Object → ℕ
elements_of o = max o.length 1

abbrev pub cell_of : ℕ → Origin → Cell
cell_of w origin = record { width = w; origin = origin }

-- ---- Objects

-- the first so many elements of an object
abbrev pub element_cells : (width number count : ℕ) → List Cell
element_cells w number zero = []
element_cells w number (suc n) = element_cells w number n ++ cell_of w (Element number n) ∷ []

-- of the objects from a number on
abbrev pub object_cells : Model → ℕ → List Object → List Cell
object_cells model number [] = []
object_cells model number (o ∷ os) = element_cells (width_of o.kind model) number (elements_of o) ++ object_cells model (suc number) os

abbrev pub firsts_from : ℕ → List Object → List ℕ
firsts_from first [] = []
firsts_from first (o ∷ os) = first ∷ firsts_from (first + elements_of o) os

-- ---- Slots

abbrev pub slot_cells : List Bool → List Cell
slot_cells [] = []
slot_cells (true ∷ read) = cell_of 64 Saved ∷ slot_cells read
slot_cells (false ∷ read) = slot_cells read

abbrev pub slots_from : ℕ → List Bool → List (Option ℕ)
slots_from first [] = []
slots_from first (true ∷ read) = Some first ∷ slots_from (suc first) read
slots_from first (false ∷ read) = None ∷ slots_from first read

-- ---- Draws

abbrev pub has_width : List ℕ → ℕ → Bool
has_width [] w = false
has_width (x ∷ xs) w = x == w || has_width xs w

-- with the width that the instruction draws into a slot, where it is a new one
abbrev pub with_draw : Model → List ℕ → Instruction → List ℕ
with_draw model widths (i.Draw slot k) = if has_width widths (width_of k model) then widths else widths ++ width_of k model ∷ []
with_draw model widths _ = widths

abbrev pub widths_behind : Model → List ℕ → List Instruction → List ℕ
widths_behind model widths [] = widths
widths_behind model widths (x ∷ xs) = widths_behind model (with_draw model widths x) xs

abbrev pub drawn_cells : List ℕ → List Cell
drawn_cells [] = []
drawn_cells (w ∷ ws) = cell_of w Saved ∷ drawn_cells ws

abbrev pub drawn_at : ℕ → ℕ → DrawnAt
drawn_at w cell = record { width = w; cell = cell }

abbrev pub drawn_from : ℕ → List ℕ → List DrawnAt
drawn_from first [] = []
drawn_from first (w ∷ ws) = drawn_at w first ∷ drawn_from (suc first) ws

-- ---- The index of a `++` or `--` behind an element

abbrev pub keeps : List Object → Instruction → Bool
keeps objects (i.Change slot before by k at object) = not before && is_array objects object
keeps objects _ = false

abbrev pub keeps_some : List Object → List Instruction → Bool
keeps_some objects [] = false
keeps_some objects (x ∷ xs) = keeps objects x || keeps_some objects xs

abbrev pub index_cells : Bool → List Cell
index_cells kept = if kept then cell_of 64 Saved ∷ [] else []

abbrev pub index_at : ℕ → Bool → Option ℕ
index_at first kept = if kept then Some first else None

-- ---- The layout

abbrev pub lay_of : Model → List Object → List Bool → List ℕ → Bool → Lay
lay_of model objects read widths kept =
    let elements = object_cells model 0 objects in
    let slots = elements ++ slot_cells read in
    let drawn = slots ++ drawn_cells widths in
    record {
      firsts = firsts_from 0 objects;
      slots = slots_from (length elements) read;
      drawn = drawn_from (length slots) widths;
      index = index_at (length drawn) kept;
      cells = drawn ++ index_cells kept;
    }

-- of this code, which works on so many slots
abbrev pub layout_of : List Object → Model → List Instruction → ℕ → Lay
layout_of objects model code slots =
    lay_of model objects (marks_behind objects (replicate slots false) code) (widths_behind model [] code) (keeps_some objects code)

-- ---- Where things lie

abbrev pub slot_cell : Lay → ℕ → Option ℕ
slot_cell l slot = slice_index_or l.slots slot None

-- the first cell of this width
abbrev pub drawn_in : List DrawnAt → ℕ → Option ℕ
drawn_in [] w = None
drawn_in (d ∷ ds) w = if d.width == w then Some d.cell else drawn_in ds w

abbrev pub drawn_cell : Lay → ℕ → Option ℕ
drawn_cell l w = drawn_in l.drawn w
