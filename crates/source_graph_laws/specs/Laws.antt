-- Which graphs stand for a program.
use Rattle.std.specs.Prelude.{ℕ, ◌≤◌, List, length}
use Rattle.c_typed.specs.Facts.{IsTyped}
use Rattle.c_typed.specs.Parts.{Parts, tree_of}
use Rattle.c_graph.specs.Shape.{Flow}
use Rattle.c_graph.specs.Functions.{Flows, AreFlows}
use Rattle.slot_laws.specs.Laws.{IsOrder}
use Rattle.cfg_build.specs.Graphs.{ProgramFollows}
use Rattle.call_inline.specs.Inlining.{IsInlining}
use Rattle.program_graphs.specs.Standing.{ErrorsFollow, StandsFor}
use Rattle.program_graphs.specs.Returning.{ComesBack, ErrorsComeBack}
use Rattle.join_laws.specs.Keeping.{KeepsErrors}

-- The graph with all calls of function graphs inlined has the errors of the typed program whose flat code these follow, in an order of its
-- functions in which each stands behind those that it calls, and no others.
abbrev pub InlinedGraphsStand : Type 0
InlinedGraphsStand =
    (t : Parts) (order : List ℕ) (p : Flows) (g : Flow) → IsTyped (tree_of t) → IsOrder (tree_of t) order → AreFlows p
    → ProgramFollows t order p → IsInlining p g → ErrorsFollow (tree_of t) g × ErrorsComeBack (tree_of t) g

-- A graph that has the errors of such a graph, and no others, stands for the program.
abbrev pub JoinedGraphsStand : Type 0
JoinedGraphsStand =
    (t : Parts) (g h : Flow) → length g.nodes ≤ 2147483647 → ErrorsFollow (tree_of t) g → ErrorsComeBack (tree_of t) g → KeepsErrors g h → ComesBack g h
    → StandsFor h (tree_of t)
