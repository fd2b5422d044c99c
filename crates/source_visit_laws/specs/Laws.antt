-- Visits of a program's loops by the graph that is made of it.
use Rattle.std.specs.Prelude.{ℕ, List}
use Rattle.c_typed.specs.Facts.{IsTyped}
use Rattle.c_typed.specs.Parts.{Parts, tree_of}
use Rattle.c_typed.specs.Tree.{Program}
use Rattle.c_graph.specs.Shape.{Flow, IsFlow}
use Rattle.c_graph.specs.Functions.{Flows, AreFlows}
use Rattle.c_graph.specs.Runs.{Formulas, IsInductive}
use Rattle.slot_laws.specs.Laws.{IsOrder}
use Rattle.code_moves.specs.Setting.{Setting}
use Rattle.cfg_build.specs.Graphs.{ProgramFollows, program_setting}
use Rattle.call_inline.specs.Inlining.{IsInlining}
use Rattle.program_visits.specs.Visiting.{VisitsFollow, VisitsHold}

-- The graph with all calls of function graphs inlined visits the loops of the typed program whose flat code these follow, in an order of its
-- functions in which each stands behind those that it calls.
abbrev pub InlinedVisitsFollow : Type 0
InlinedVisitsFollow =
    (t : Parts) (order : List ℕ) (p : Flows) (g : Flow) → IsTyped (tree_of t) → IsOrder (tree_of t) order → AreFlows p → ProgramFollows t order p → IsInlining p g
    → VisitsFollow (program_setting t order) (tree_of t) g

-- With an inductive map on a graph that visits a program's loops, the formula of a loop's node holds at each visit.
abbrev pub VisitsHoldThere : Type 0
VisitsHoldThere = (s : Setting) (p : Program) (g : Flow) (m : Formulas) → IsFlow g → IsInductive g m → VisitsFollow s p g → VisitsHold s p g m
