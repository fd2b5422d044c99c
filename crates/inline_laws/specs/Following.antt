-- Runs over functions that end at an error node, and the graph with the calls inlined.
use Rattle.std.specs.Prelude.{ℕ, ℤ, ◌≡◌, List, Some, slice_get}
use Rattle.lv_base.specs.declared.fault.ErrorKind.{ErrorKind}
use Rattle.c_graph.specs.declared.graph.NodeId.{NodeId}
use Rattle.c_graph.specs.declared.graph.Node.TheVariants.{Error}
use Rattle.c_graph.specs.Shape.{Flow, IsFlow}
use Rattle.c_graph.specs.Functions.{Flows}
use Rattle.c_graph.specs.Runs.{Formulas, IsInductive, RunsTo}
use Rattle.function_runs.specs.Runs.{FunctionsFail}
use Rattle.call_inline.specs.Inlining.{Inlines, IsInlining}

-- a run over functions that ends at an error node has a run of the graph with the copies, which draws the same values and ends at an
-- error node of the same kind and offset
abbrev pub InlinedRunsFollow : Type 0
InlinedRunsFollow =
    (p : Flows) (g : Flow) (draws : List ℤ) (kind : ErrorKind) (at : ℕ)
    → IsInlining p g → FunctionsFail p draws kind at
    → (v : NodeId) × ((after : List ℕ) × RunsTo g draws v after × (slice_get g.nodes v.0 ≡ Some (Error kind at)))

-- with an inductive map on the graph of the whole, no run over functions ends at an error node
abbrev pub InlinedMapMeansSafe : Type 0
InlinedMapMeansSafe =
    (p : Flows) (g : Flow) (m : Formulas) (draws : List ℤ) (kind : ErrorKind) (at : ℕ)
    → IsFlow g → Inlines p g → IsInductive g m → FunctionsFail p draws kind at → ⊥
