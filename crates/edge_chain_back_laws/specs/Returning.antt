-- Runs along joined edges, and the runs of the graph whose chains were joined.
use Rattle.std.specs.Prelude.{ℕ, ℤ, List}
use Rattle.lv_base.specs.declared.fault.ErrorKind.{ErrorKind}
use Rattle.c_graph.specs.declared.graph.NodeId.{NodeId}
use Rattle.c_graph.specs.declared.graph.Edge.{Edge}
use Rattle.c_graph.specs.Shape.{Flow, IsFlow}
use Rattle.c_graph.specs.Runs.{RunsTo}
use Rattle.program_graphs.specs.Standing.{MeetsError}
use Rattle.program_graphs.specs.Weighing.{ComesBackFor}
use Rattle.edge_chains.specs.Joining.{IsJoined}
use Rattle.edge_chain_laws.specs.Keeping.{with_edges}

-- a run along the joined edges to any node is a run of the graph to it, with the same values and the same store
abbrev pub ChainsComeBack : Type 0
ChainsComeBack =
    (g : Flow) (new : List Edge) (draws : List ℤ) (v : NodeId) (after : List ℕ)
    → IsJoined g.nodes g.loops g.entry g.edges new → RunsTo (with_edges g new) draws v after → RunsTo g draws v after

-- each error that a run along the joined edges meets, a run of the graph meets, and draws the same values
abbrev pub ChainErrorsComeBack : Type 0
ChainErrorsComeBack =
    (g : Flow) (new : List Edge) (draws : List ℤ) (kind : ErrorKind) (at : ℕ)
    → IsJoined g.nodes g.loops g.entry g.edges new → MeetsError (with_edges g new) draws kind at → MeetsError g draws kind at

-- and along a path that costs no more than all nodes weigh together for each joined edge, whatever they weigh
abbrev pub ChainPathsComeBack : Type 0
ChainPathsComeBack = (g : Flow) (new : List Edge) (weight : ℕ → ℕ) → IsFlow g → IsJoined g.nodes g.loops g.entry g.edges new → ComesBackFor weight g (with_edges g new)

-- so each path of a graph costs no more itself
abbrev pub OwnPathsComeBack : Type 0
OwnPathsComeBack = (g : Flow) (weight : ℕ → ℕ) → IsFlow g → ComesBackFor weight g g
