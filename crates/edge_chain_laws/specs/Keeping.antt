-- Runs to errors and to loops, and the graph with joined edges.
use Rattle.std.specs.Prelude.{ℕ, ℤ, ◌≡◌, List, Some, slice_get}
use Rattle.lv_base.specs.declared.fault.ErrorKind.{ErrorKind}
use Rattle.c_graph.specs.declared.graph.NodeId.{NodeId}
use Rattle.c_graph.specs.declared.graph.Node.TheVariants.{Error}
use Rattle.c_graph.specs.declared.graph.Edge.{Edge}
use Rattle.c_graph.specs.declared.graph.LoopAt.{LoopAt}
use Rattle.c_graph.specs.Shape.{Flow}
use Rattle.c_graph.specs.Runs.{RunsTo}
use Rattle.edge_chains.specs.Joining.{IsJoined}

-- the graph with other edges
abbrev pub with_edges : Flow → List Edge → Flow
with_edges g edges = record {
  nodes = g.nodes;
  edges = edges;
  cells = g.cells;
  terms = g.terms;
  entry = g.entry;
  loops = g.loops;
}

-- a run to an error node is a run to it along the joined edges
abbrev pub ChainsKeepErrors : Type 0
ChainsKeepErrors =
    (g : Flow) (new : List Edge) (draws : List ℤ) (v : NodeId) (after : List ℕ) (kind : ErrorKind) (at : ℕ)
    → IsJoined g.nodes g.loops g.entry g.edges new → RunsTo g draws v after → slice_get g.nodes v.0 ≡ Some (Error kind at)
    → RunsTo (with_edges g new) draws v after

-- a run to the node of a loop is a run to it along the joined edges, with the same store
abbrev pub ChainsKeepVisits : Type 0
ChainsKeepVisits =
    (g : Flow) (new : List Edge) (draws : List ℤ) (k : ℕ) (l : LoopAt) (after : List ℕ)
    → IsJoined g.nodes g.loops g.entry g.edges new → slice_get g.loops k ≡ Some l → RunsTo g draws l.node after
    → RunsTo (with_edges g new) draws l.node after
