-- Function graphs, and the facts that they keep.
use Rattle.std.specs.Prelude.{ℕ, ◌+◌, ◌<◌, ◌≤◌, ◌≡◌, List, length, All, Some, slice_get}
use Rattle.bv_term.specs.WellFormed.{Table, IsTable}
use Rattle.c_graph.specs.declared.graph.NodeId.{NodeId}
use Rattle.c_graph.specs.declared.graph.Node.{Node}
use Rattle.c_graph.specs.declared.graph.Node.TheVariants.{Plain, Error, End, Call}
use Rattle.c_graph.specs.declared.graph.Edge.{Edge}
use Rattle.c_graph.specs.declared.graph.Cell.{Cell}
use Rattle.c_graph.specs.declared.graph.LoopAt.{LoopAt}
use Rattle.c_graph.specs.Shape.{EdgeFits, GoesOn, IsNodeOf, widths_of}

-- the graph of one function
pub record FnFlow : Type 0 where
  pub nodes : List Node
  pub edges : List Edge
  pub entry : NodeId
  pub loops : List LoopAt

-- the graphs of a program's functions, the node at which each returns, and the number of main
pub record Flows : Type 0 where
  pub graphs : List FnFlow
  pub cells : List Cell
  pub terms : Table
  pub exits : List NodeId
  pub main : ℕ

-- a call is of a function among these, and the node at which it goes on is there and goes on
abbrev pub CallFits : ℕ → FnFlow → Node → Type 0
CallFits functions g Plain = Unit {0}
CallFits functions g (Error kind at) = Unit {0}
CallFits functions g End = Unit {0}
CallFits functions g (Call function next) = (function < functions) × IsNodeOf g.nodes next × GoesOn g.nodes g.edges next

-- the facts of one function's graph, beside so many functions
pub record IsFnFlow (functions : ℕ) (table : Table) (g : FnFlow) : Type 0 where
  pub calls : All (CallFits functions g) g.nodes
  pub few : length g.nodes + length g.edges ≤ 2147483647
  pub entry : IsNodeOf g.nodes g.entry
  pub edges : All (EdgeFits g.nodes table) g.edges
  pub entry_goes_on : GoesOn g.nodes g.edges g.entry
  pub targets_go_on : All (λ e. GoesOn g.nodes g.edges e.to) g.edges
  pub loops : All (λ l. IsNodeOf g.nodes l.node) g.loops

-- the facts that function graphs keep
pub record AreFlows (p : Flows) : Type 0 where
  pub each : All (IsFnFlow (length p.graphs) p.terms) p.graphs
  pub few_cells : length p.cells < 4294967296
  pub cells : p.terms.cells ≡ widths_of p.cells
  pub table : IsTable p.terms
  pub exits : length p.exits ≡ length p.graphs
  pub returns :
      (k : ℕ) (g : FnFlow) (v : NodeId) → slice_get p.graphs k ≡ Some g → slice_get p.exits k ≡ Some v → slice_get g.nodes v.0 ≡ Some End
  pub main : p.main < length p.graphs
