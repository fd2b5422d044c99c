-- Graphs, and the facts that each keeps.
use Rattle.std.specs.Prelude.{ℕ, ◌+◌, ◌<◌, ◌≤◌, ◌≡◌, ◌==◌, ◌||◌, Bool, false, IsTrue, List, [], ◌∷◌, length, All, Some, slice_get, slice_index, if◌then◌else◌}
use Rattle.bv_term.specs.declared.term.TermId.{TermId}
use Rattle.bv_term.specs.WellFormed.{Table, IsTable, IsArray, widths}
use Rattle.c_graph.specs.declared.graph.NodeId.{NodeId}
use Rattle.c_graph.specs.declared.graph.EdgeId.{EdgeId}
use Rattle.c_graph.specs.declared.graph.Node.{Node}
use Rattle.c_graph.specs.declared.graph.Node.TheVariants.{Plain, Error, End, Call}
use Rattle.c_graph.specs.declared.graph.Operation.{Operation}
use Rattle.c_graph.specs.declared.graph.Operation.TheVariants.{Assume, Set, SetAt, Draw}
use Rattle.c_graph.specs.declared.graph.Edge.{Edge}
use Rattle.c_graph.specs.declared.graph.Cell.{Cell}
use Rattle.c_graph.specs.declared.graph.LoopAt.{LoopAt}

-- a graph: its nodes, edges, cells, the terms of its operations, the node at which runs begin, and the nodes of loops
pub record Flow : Type 0 where
  pub nodes : List Node
  pub edges : List Edge
  pub cells : List Cell
  pub terms : Table
  pub entry : NodeId
  pub loops : List LoopAt

-- the widths of cells
abbrev pub widths_of : List Cell → List ℕ
widths_of [] = []
widths_of (c ∷ cs) = c.width ∷ widths_of cs

abbrev pub IsNodeOf : List Node → NodeId → Type 0
IsNodeOf nodes v = v.0 < length nodes

-- the node is not a call
abbrev pub IsNoCall : Node → Type 0
IsNoCall Plain = Unit {0}
IsNoCall (Error kind at) = Unit {0}
IsNoCall End = Unit {0}
IsNoCall (Call function next) = ⊥

-- some edge leads from the node
abbrev pub has_out : List Edge → NodeId → Bool
has_out [] v = false
has_out (e ∷ es) v = e.from.0 == v.0 || has_out es v

-- an operation's cells and terms are there, and have the widths that it asks for
abbrev pub OperationFits : Table → Operation → Type 0
OperationFits table (Assume t) = (t.0 < length table.terms) × (slice_index (widths table) t.0 ≡ 1)
OperationFits table (Set c t) =
    (c < length table.cells) × (t.0 < length table.terms) × (slice_index (widths table) t.0 ≡ slice_index table.cells c)
OperationFits table (SetAt first n i t) =
    IsArray table.cells first n × (i.0 < length table.terms) × (t.0 < length table.terms)
    × (slice_index (widths table) t.0 ≡ slice_index table.cells first)
OperationFits table (Draw c signed) = (c < length table.cells) × (slice_index table.cells c ≤ 64)

-- an edge leads from a plain node to a node, and its operations fit
pub record EdgeFits (nodes : List Node) (table : Table) (e : Edge) : Type 0 where
  pub from : slice_get nodes e.from.0 ≡ Some Plain
  pub to : IsNodeOf nodes e.to
  pub operations : All (OperationFits table) e.ops

-- a plain node has an edge that leads on
abbrev pub GoesOn : List Node → List Edge → NodeId → Type 0
GoesOn nodes edges v = slice_get nodes v.0 ≡ Some Plain → IsTrue (has_out edges v)

-- the facts that each graph keeps
pub record IsFlow (g : Flow) : Type 0 where
  pub no_calls : All IsNoCall g.nodes
  pub few : length g.nodes + length g.edges ≤ 2147483647
  pub few_cells : length g.cells < 4294967296
  pub entry : IsNodeOf g.nodes g.entry
  pub edges : All (EdgeFits g.nodes g.terms) g.edges
  pub entry_goes_on : GoesOn g.nodes g.edges g.entry
  pub targets_go_on : All (λ e. GoesOn g.nodes g.edges e.to) g.edges
  pub loops : All (λ l. IsNodeOf g.nodes l.node) g.loops
  pub cells : g.terms.cells ≡ widths_of g.cells
  pub table : IsTable g.terms

-- the numbers of the edges that lead from the node, rising; the first edge being number n
abbrev pub outs_from : ℕ → List Edge → NodeId → List EdgeId
outs_from n [] v = []
outs_from n (e ∷ es) v = if e.from.0 == v.0 then record { 0 = n } ∷ outs_from (n + 1) es v else outs_from (n + 1) es v

-- the edges that lead from a node, in the order of their numbers
abbrev pub outs : Flow → NodeId → List EdgeId
outs g v = outs_from 0 g.edges v

-- a term of a width is there
abbrev pub HasWidth : Table → TermId → ℕ → Type 0
HasWidth table t w = (t.0 < length table.terms) × (slice_index (widths table) t.0 ≡ w)

-- a term may be stored in a cell
abbrev pub FitsCell : Table → ℕ → TermId → Type 0
FitsCell table c t =
    (c < length table.cells) × (t.0 < length table.terms) × (slice_index (widths table) t.0 ≡ slice_index table.cells c)

-- the cells are an array, and the index is there
abbrev pub IsIndexed : Table → ℕ → ℕ → TermId → Type 0
IsIndexed table first n i = IsArray table.cells first n × (i.0 < length table.terms)
