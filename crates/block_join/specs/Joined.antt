-- Graphs with joined chains of edges, and graphs of blocks, by the runs that they have, and by what stays.
use Rattle.std.specs.Prelude.{ℕ, ◌<◌, ◌≤◌, ◌≡◌, ◌⊎◌, List, ◌++◌, length}
use Rattle.c_graph.specs.declared.graph.Cell.{Cell}
use Rattle.c_graph.specs.declared.graph.Edge.{Edge}
use Rattle.c_graph.specs.declared.graph.Node.{Node}
use Rattle.c_graph.specs.Shape.{Flow}
use Rattle.edge_chains.specs.Joining.{IsJoined}
use Rattle.edge_chain_laws.specs.Keeping.{with_edges}
use Rattle.program_graphs.specs.Weighing.{ComesBackAt, ComesBackFor, total}

-- the second graph is the first with its chains of edges joined
abbrev pub IsChained : Flow → Flow → Type 0
IsChained g h = (new : List Edge) × (IsJoined g.nodes g.loops g.entry g.edges new × (h ≡ with_edges g new))

-- the graph has more than the one that stands where parts make none, which is a node alone
abbrev pub HasMore : Flow → Type 0
HasMore h = (1 < length h.nodes) ⊎ ((0 < length h.edges) ⊎ (0 < length h.cells))

-- runs of the second graph come back, at costs that are bounded by what the nodes of the first weigh together, whatever they weigh
abbrev pub ChainsReturn : Flow → Flow → Type 0
ChainsReturn g h = (weight : ℕ → ℕ) → ComesBackFor weight g h

-- runs of the second graph come back at what its nodes weigh, which together is no more than the first has nodes
abbrev pub BlocksReturn : Flow → Flow → Type 0
BlocksReturn g h = (weight : ℕ → ℕ) × (ComesBackAt weight g h × (total weight (length h.nodes) ≤ length g.nodes))

-- the second graph has the first one's entry and loops, and its nodes and cells under their numbers, others behind them
pub record Stays (g h : Flow) : Type 0 where
  pub nodes : (more : List Node) × (h.nodes ≡ g.nodes ++ more)
  pub cells : (more : List Cell) × (h.cells ≡ g.cells ++ more)
  pub entry : h.entry ≡ g.entry
  pub loops : h.loops ≡ g.loops
