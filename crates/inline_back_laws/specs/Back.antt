-- Runs of the graph with the calls inlined that end at an error node are runs over functions, and of the program.
use Rattle.std.specs.Prelude.{ℕ, ℤ, List, length}
use Rattle.lv_base.specs.declared.fault.ErrorKind.{ErrorKind}
use Rattle.c_typed.specs.Facts.{IsTyped}
use Rattle.c_typed.specs.Parts.{Parts, tree_of}
use Rattle.c_graph.specs.declared.graph.EdgeId.{EdgeId}
use Rattle.c_graph.specs.Shape.{Flow}
use Rattle.c_graph.specs.Functions.{Flows, AreFlows}
use Rattle.slot_laws.specs.Laws.{IsOrder}
use Rattle.cfg_build.specs.Graphs.{ProgramFollows}
use Rattle.call_inline.specs.Inlining.{IsInlining}
use Rattle.function_runs.specs.Runs.{FunctionsFail}
use Rattle.program_graphs.specs.Standing.{MeetsError}
use Rattle.program_graphs.specs.Returning.{ErrorsComeBack, FailsAlong}
use Rattle.code_back_laws.specs.Back.{FailsIn}

-- ---- The laws

-- A run of the inlined graph to an error node is a run over functions to the same error, with a move for each edge of its path.
abbrev pub InlinedRunsComeBack : Type 0
InlinedRunsComeBack =
    (p : Flows) (g : Flow) (path : List EdgeId) (draws : List ℤ) (kind : ErrorKind) (at : ℕ) → AreFlows p → IsInlining p g → FailsAlong g path draws kind at → FailsIn p (length path) draws kind at

-- So where the inlined graph meets an error, functions fail with it.
abbrev pub MetErrorsComeBack : Type 0
MetErrorsComeBack = (p : Flows) (g : Flow) (draws : List ℤ) (kind : ErrorKind) (at : ℕ) → AreFlows p → IsInlining p g → MeetsError g draws kind at → FunctionsFail p draws kind at

-- The errors of the inlined graph come back to the typed program whose code the function graphs follow.
abbrev pub InlinedErrorsComeBack : Type 0
InlinedErrorsComeBack =
    (t : Parts) (order : List ℕ) (p : Flows) (g : Flow) → IsTyped (tree_of t) → IsOrder (tree_of t) order → AreFlows p → ProgramFollows t order p → IsInlining p g → ErrorsComeBack (tree_of t) g
