-- The tests of parts that are to make a graph: a mark for each node from which an edge leads, and the graph that stands for parts that make none.
use Rattle.std.specs.Prelude.{ℕ, ◌+◌, ◌<◌, ◌≤◌, ◌≡◌, Bool, true, false, List, [], ◌∷◌, length, All, Some, slice_get, slice_index_or}
use Rattle.lv_base.specs.declared.fault.ErrorKind.TheVariants.{Reach}
use Rattle.bv_term.specs.WellFormed.{Table}
use Rattle.c_graph.specs.declared.graph.NodeId.{NodeId}
use Rattle.c_graph.specs.declared.graph.Node.{Node}
use Rattle.c_graph.specs.declared.graph.Node.TheVariants.{Plain, Error, End, Call}
use Rattle.c_graph.specs.declared.graph.Edge.{Edge}
use Rattle.c_graph.specs.declared.graph.Cell.{Cell}
use Rattle.c_graph.specs.declared.graph.LoopAt.{LoopAt}
use Rattle.c_graph.specs.Shape.{Flow, EdgeFits, GoesOn, IsNodeOf, has_out}
use Rattle.c_graph.specs.Functions.{FnFlow, Flows}

-- an edge leads from each node that is marked
abbrev pub AreMarks : List Edge → List Bool → Type 0
AreMarks edges marks = (v : ℕ) → slice_index_or marks v false ≡ true → has_out edges (record { 0 = v }) ≡ true

-- each of so many nodes from which an edge leads is marked
abbrev pub AllMarked : ℕ → List Edge → List Bool → Type 0
AllMarked count edges marks = (v : ℕ) → v < count → has_out edges (record { 0 = v }) ≡ true → slice_index_or marks v false ≡ true

-- a plain node is marked
abbrev pub GoesOnBy : List Node → List Bool → NodeId → Type 0
GoesOnBy nodes marks v = slice_get nodes v.0 ≡ Some Plain → slice_index_or marks v.0 false ≡ true

-- a call is of one of so many functions, and the node at which it goes on is there, and marked if it is plain
abbrev pub CallFitsBy : ℕ → List Node → List Bool → Node → Type 0
CallFitsBy functions nodes marks Plain = Unit {0}
CallFitsBy functions nodes marks (Error kind at) = Unit {0}
CallFitsBy functions nodes marks End = Unit {0}
CallFitsBy functions nodes marks (Call function next) = (function < functions) × IsNodeOf nodes next × GoesOnBy nodes marks next

-- what graphs and function graphs keep alike
pub record IsSound (nodes : List Node) (leads : List Edge) (table : Table) (first : NodeId) (places : List LoopAt) : Type 0 where
  pub few : length nodes + length leads ≤ 2147483647
  pub entry : IsNodeOf nodes first
  pub edges : All (EdgeFits nodes table) leads
  pub entry_goes_on : GoesOn nodes leads first
  pub targets_go_on : All (λ e. GoesOn nodes leads e.to) leads
  pub loops : All (λ l. IsNodeOf nodes l.node) places

-- each function returns at an end node of its own
abbrev pub ReturnAt : List FnFlow → List NodeId → Type 0
ReturnAt graphs exits = (k : ℕ) (g : FnFlow) (v : NodeId) → slice_get graphs k ≡ Some g → slice_get exits k ≡ Some v → slice_get g.nodes v.0 ≡ Some End

-- the graph and the function graphs of these parts
abbrev pub flow_of : List Node → List Edge → List Cell → Table → NodeId → List LoopAt → Flow
flow_of nodes edges cells terms entry loops =
    record { nodes = nodes; edges = edges; cells = cells; terms = terms; entry = entry; loops = loops }

abbrev pub flows_of : List FnFlow → List Cell → Table → List NodeId → ℕ → Flows
flows_of graphs cells terms exits main = record { graphs = graphs; cells = cells; terms = terms; exits = exits; main = main }

-- no terms, over no cells
abbrev pub no_terms : Table
no_terms = record { cells = []; terms = [] }

-- the graph that is an error at its entry, whose offset is 0
abbrev pub error_flow : Flow
error_flow = record {
  nodes = Error Reach 0 ∷ [];
  edges = [];
  cells = [];
  terms = no_terms;
  entry = record { 0 = 0 };
  loops = [];
}

-- the graph of one function that is an error at its entry, and has an end behind it
abbrev pub error_function : FnFlow
error_function = record { nodes = Error Reach 0 ∷ End ∷ []; edges = []; entry = record { 0 = 0 }; loops = [] }

-- the graphs of a program of this one function
abbrev pub error_flows : Flows
error_flows = record {
  graphs = error_function ∷ [];
  cells = [];
  terms = no_terms;
  exits = record { 0 = 1 } ∷ [];
  main = 0;
}
