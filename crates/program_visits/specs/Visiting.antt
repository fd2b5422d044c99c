-- Visits of loops: the program's, and those of a graph.
use Rattle.std.specs.Prelude.{ℕ, ℤ, ◌+◌, ◌<◌, ◌≡◌, List, take, Some, slice_get, slice_index, slice_index_or, pos, []}
use Rattle.lv_base.specs.Integers.{InRange, residue, width_of}
use Rattle.c_run.specs.Run.{Spent}
use Rattle.c_typed.specs.Tree.{Program}
use Rattle.c_typed.specs.Run.{run}
use Rattle.c_typed.specs.declared.tree.Object.{Object}
use Rattle.c_graph.specs.declared.graph.LoopAt.{LoopAt}
use Rattle.c_graph.specs.Shape.{Flow, widths_of}
use Rattle.c_graph.specs.Steps.{IsWhole}
use Rattle.c_graph.specs.Runs.{RunsTo, Formulas, HoldsAt}
use Rattle.code_layout.specs.Layout.{elements_of}
use Rattle.code_moves.specs.Setting.{Setting}

-- Each element of each object is of the object's kind, and its cell holds its low bits.
abbrev pub Shows : Setting → List (List ℤ) → List ℕ → Type 0
Shows s values store =
    (object first element : ℕ) (o : Object) → slice_get s.objects object ≡ Some o → slice_get s.lay.firsts object ≡ Some first → element < elements_of o
    → (slice_index store (first + element) ≡ residue (width_of o.kind s.model) (slice_index_or (slice_index_or values object []) element (pos 0)))
    × InRange o.kind s.model (slice_index_or (slice_index_or values object []) element (pos 0))

-- The program visits the loop at this offset: a turn is wanted there behind so many turns, with these values of the objects.
abbrev pub Visits : Program → List ℤ → ℕ → List (List ℤ) → Type 0
Visits p inputs at values = (turns : ℕ) × (taken : ℕ) × (run turns p inputs ≡ Spent at values taken)

-- a loop of the graph
abbrev pub IsLoopOf : Flow → LoopAt → Type 0
IsLoopOf g l = (k : ℕ) × (slice_get g.loops k ≡ Some l)

-- For each visit of a loop of the graph a run of the graph comes to the loop's node, has drawn the first inputs, and its store shows what
-- the objects hold at the visit.
abbrev pub VisitsFollow : Setting → Program → Flow → Type 0
VisitsFollow s p g =
    (inputs : List ℤ) (l : LoopAt) (values : List (List ℤ)) → IsLoopOf g l → Visits p inputs l.at values
    → (taken : ℕ) × (after : List ℕ) × RunsTo g (take taken inputs) l.node after × Shows s values after

-- At each visit of a loop of the graph the map's formula at the loop's node holds, in a store that shows what the objects hold.
abbrev pub VisitsHold : Setting → Program → Flow → Formulas → Type 0
VisitsHold s p g m =
    (inputs : List ℤ) (l : LoopAt) (values : List (List ℤ)) → IsLoopOf g l → Visits p inputs l.at values
    → (after : List ℕ) × IsWhole (widths_of g.cells) after × HoldsAt m l.node after × Shows s values after
