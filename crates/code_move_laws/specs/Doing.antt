-- What deeds do to a store, with the values that they draw.
use Rattle.std.specs.Prelude.{ℕ, ◌≡◌, List, [], ◌∷◌, Option, None, Some, slice_set, ℤ}
use Rattle.bv_term.specs.WellFormed.{Table}
use Rattle.c_graph.specs.declared.graph.Operation.{Operation}
use Rattle.c_graph.specs.Steps.{Moment, moment, stored_at, drawn, operated_all}
use Rattle.code_moves.specs.Deeds.{Deed, Sets, SetsAt, Draws, AreDeeds}

-- over cells of these widths
abbrev pub did : List ℕ → Deed → Moment → Option Moment
did widths (Sets cell value) m = Some (moment (slice_set m.store cell (value m.store)) m.inputs)
did widths (SetsAt first count index value) m = Some (moment (stored_at m.store first count (index m.store) (value m.store)) m.inputs)
did widths (Draws cell signed) m = drawn (record { cells = widths; terms = [] }) cell signed m.store m.inputs

-- one after the other
abbrev pub did_all : List ℕ → List Deed → Option Moment → Option Moment
did_all widths ds None = None
did_all widths [] (Some m) = Some m
did_all widths (d ∷ ds) (Some m) = did_all widths ds (did widths d m)

-- the deeds lead from a store to another, and leave these of the values that are still to be drawn
abbrev pub Reaches : List ℕ → List Deed → List ℕ → List ℤ → List ℕ → List ℤ → Type 0
Reaches widths ds store inputs after rest = did_all widths ds (Some (moment store inputs)) ≡ Some (moment after rest)

-- Operations that do these deeds lead there too.
abbrev pub DeedsAreDone : Type 0
DeedsAreDone =
    (table : Table) (ops : List Operation) (ds : List Deed) (store : List ℕ) (inputs : List ℤ) (after : List ℕ) (rest : List ℤ) → AreDeeds table ops ds → Reaches table.cells ds store inputs after rest
    → operated_all table ops (Some (moment store inputs)) ≡ Some (moment after rest)
