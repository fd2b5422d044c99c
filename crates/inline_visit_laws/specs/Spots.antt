-- Runs over functions that stand in main are runs of the graph in which each call is a copy.
use Rattle.std.specs.Prelude.{ℕ, ℤ, List, []}
use Rattle.c_graph.specs.declared.graph.NodeId.{NodeId}
use Rattle.c_graph.specs.Shape.{Flow}
use Rattle.c_graph.specs.Functions.{Flows}
use Rattle.c_graph.specs.Runs.{RunsTo}
use Rattle.function_runs.specs.Runs.{spot, FunctionsRunTo}
use Rattle.call_inline.specs.Inlining.{IsInlining}

-- the number of a node of main in the copy that is main's
abbrev pub main_node : (p : Flows) (g : Flow) → IsInlining p g → NodeId → NodeId
main_node p g i v = i.number (i.main).0 v

-- a run over functions to a node of main, with no call open, has a run of the graph with the copies to that node of main's copy, in the
-- same store, which draws the same values
abbrev pub InlinedSpotsFollow : Type 0
InlinedSpotsFollow =
    (p : Flows) (g : Flow) (i : IsInlining p g) (draws : List ℤ) (v : NodeId) (store : List ℕ) → FunctionsRunTo p draws (spot p.main v [] store) → RunsTo g draws (main_node p g i v) store
