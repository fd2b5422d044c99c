-- Runs to errors of a graph of blocks, and the runs of the graph that it was made of.
use Rattle.std.specs.Prelude.{ℕ, ℤ, ◌≡◌, List, Some, slice_get}
use Rattle.lv_base.specs.declared.fault.ErrorKind.{ErrorKind}
use Rattle.c_graph.specs.declared.graph.NodeId.{NodeId}
use Rattle.c_graph.specs.declared.graph.Node.TheVariants.{Error}
use Rattle.c_graph.specs.Shape.{Flow, IsFlow}
use Rattle.c_graph.specs.Runs.{RunsTo}
use Rattle.program_graphs.specs.Standing.{MeetsError}
use Rattle.program_graphs.specs.Weighing.{ComesBackAt}
use Rattle.block_rule.specs.Plans.{Plan}
use Rattle.block_rule.specs.Blocked.{IsBlocked}
use Rattle.block_edges.specs.Exact.{HasNoMore}
use Rattle.block_edges.specs.Weights.{IsExact}

-- a run of the graph of blocks to an error node has a run of the graph to the same error node, which draws the same values
abbrev pub BlocksComeBack : Type 0
BlocksComeBack =
    (g h : Flow) (plan : Plan) (draws : List ℤ) (v : NodeId) (after : List ℕ) (kind : ErrorKind) (at : ℕ)
    → IsFlow g → IsFlow h → IsBlocked g h plan → HasNoMore g h plan → RunsTo h draws v after → slice_get h.nodes v.0 ≡ Some (Error kind at)
    → ((end : List ℕ) × RunsTo g draws v end) × (slice_get g.nodes v.0 ≡ Some (Error kind at))

-- each error that a run of the graph of blocks meets, a run of the graph meets, and draws the same values
abbrev pub BlockErrorsComeBack : Type 0
BlockErrorsComeBack =
    (g h : Flow) (plan : Plan) (draws : List ℤ) (kind : ErrorKind) (at : ℕ)
    → IsFlow g → IsFlow h → IsBlocked g h plan → HasNoMore g h plan → MeetsError h draws kind at → MeetsError g draws kind at

-- and along a path that has at most as many edges as the run of the graph of blocks costs
abbrev pub BlockPathsComeBack : Type 0
BlockPathsComeBack = (g h : Flow) (plan : Plan) → IsFlow g → IsFlow h → IsBlocked g h plan → (exact : IsExact g h plan) → ComesBackAt exact.weight g h
