-- Invariants at loops.
use Rattle.std.specs.Prelude.{ℕ, ◌≡◌, Bool, List}
use Rattle.bv_term.specs.WellFormed.{IsTable}
use Rattle.c_tree.specs.Tree.{Items}
use Rattle.c_typed.specs.Parts.{Parts, tree_of}
use Rattle.c_types.specs.Elaborated.{elaborated}
use Rattle.c_types.specs.Laws.{SourceFits}
use Rattle.c_graph.specs.declared.graph.LoopAt.{LoopAt}
use Rattle.c_graph.specs.Shape.{Flow, IsFlow}
use Rattle.c_graph.specs.Functions.{Flows}
use Rattle.c_graph.specs.Runs.{Formulas, IsMapOf, IsInductive}
use Rattle.cfg_build.specs.Graphs.{ProgramFollows, program_setting}
use Rattle.call_inline.specs.Inlining.{IsInlining}
use Rattle.program_visits.specs.Visiting.{IsLoopOf, VisitsHold}
use Rattle.witness_visit_laws.specs.Visited.{InvariantIsTrue, CellsStand, VisitsMarked}

-- Function graphs that follow a program's code, inlined, have their cells where the program's layout has them.
abbrev pub InlinedCellsStand : Type 0
InlinedCellsStand = (t : Parts) (order : List ℕ) (p : Flows) (g : Flow) → ProgramFollows t order p → IsInlining p g → CellsStand (program_setting t order) g.cells

-- Where the formulas of a map on a graph hold at the visits of the loops of an elaborated source, each loop's invariant is true there, whatever
-- cells are marked.
abbrev pub InvariantsAreTrue : Type 0
InvariantsAreTrue =
    (items : Items) (t : Parts) (order : List ℕ) (g : Flow) (marks : ℕ → ℕ → Bool) (m : Formulas) (source : List ℕ) (l : LoopAt)
    → tree_of t ≡ elaborated items t.model → SourceFits items t.model
    → CellsStand (program_setting t order) g.cells → IsTable m.terms → IsMapOf g m → VisitsHold (program_setting t order) (tree_of t) g m → IsLoopOf g l
    → InvariantIsTrue items t.model source g marks m l

-- With an inductive map on a graph that visits the loops of an elaborated source as far as cells are marked, each loop's invariant over these
-- cells is true at each visit.
abbrev pub MarkedInvariantsAreTrue : Type 0
MarkedInvariantsAreTrue =
    (items : Items) (t : Parts) (order : List ℕ) (g : Flow) (marks : ℕ → ℕ → Bool) (m : Formulas) (source : List ℕ) (l : LoopAt)
    → tree_of t ≡ elaborated items t.model → SourceFits items t.model → VisitsMarked (program_setting t order) (tree_of t) marks g
    → IsFlow g → IsTable m.terms → IsInductive g m → IsLoopOf g l → InvariantIsTrue items t.model source g marks m l
