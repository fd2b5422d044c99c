-- Trees of paths through a graph.
use Rattle.std.specs.Prelude.{ℕ, ◌+◌, ◌<◌, ◌≡◌, List, slice_get, [], ◌∷◌, ◌++◌, zero, suc, length, Option, None, Some, All, slice_index_or, slice_set}
use Rattle.bv_term.specs.declared.term.TermId.{TermId}
use Rattle.bv_term.specs.WellFormed.{Table}
use Rattle.c_graph.specs.declared.graph.NodeId.{NodeId}
use Rattle.c_graph.specs.declared.graph.EdgeId.{EdgeId}
use Rattle.c_graph.specs.declared.graph.Edge.{Edge}
use Rattle.c_graph.specs.declared.graph.Node.TheVariants.{Plain}
use Rattle.c_graph.specs.Shape.{Flow, HasWidth, outs}
use Rattle.reach_tree.specs.declared.vertex.VertexId.{VertexId}
use Rattle.reach_tree.specs.declared.vertex.Vertex.{Vertex}
use Rattle.reach_tree.specs.declared.vertex.NewLabel.{NewLabel}

-- the vertices of a tree, and the table of the terms of their labels
pub record Branches : Type 0 where
  pub vertices : List Vertex
  pub terms : Table

-- each conjunct of a label is a term of width 1
abbrev pub IsLabel : Table → List TermId → Type 0
IsLabel table label = All (λ t. HasWidth table t 1) label

-- a vertex at a node, with an empty label and no children
abbrev pub fresh : Option VertexId → Option EdgeId → NodeId → Vertex
fresh parent by node = record { parent = parent; by = by; node = node; label = []; version = 0; children = [] }

-- the root, at the node where runs begin
abbrev pub root_at : NodeId → Vertex
root_at entry = fresh None None entry

-- the vertex of a number; past the end a vertex at node 0
abbrev pub vertex_at : List Vertex → ℕ → Vertex
vertex_at vs k = slice_index_or vs k (root_at (record { 0 = 0 }))

-- the label of each vertex is one
abbrev pub AreLabelled : Table → List Vertex → Type 0
AreLabelled table vs = (k : ℕ) → IsLabel table (vertex_at vs k).label

-- the vertex of a number changed
abbrev pub changed : List Vertex → ℕ → (Vertex → Vertex) → List Vertex
changed vs k f = slice_set vs k (f (vertex_at vs k))

-- so many numbers of vertices, from a number on
abbrev pub numbers_from : ℕ → ℕ → List VertexId
numbers_from n zero = []
numbers_from n (suc k) = record { 0 = n } ∷ numbers_from (n + 1) k

-- the node to which an edge leads
abbrev pub target_of : List Edge → ℕ → NodeId
target_of [] k = record { 0 = 0 }
target_of (e ∷ es) zero = e.to
target_of (e ∷ es) (suc k) = target_of es k

-- a child for each of these edges
abbrev pub leaves_of : List Edge → VertexId → List EdgeId → List Vertex
leaves_of edges v [] = []
leaves_of edges v (e ∷ es) = fresh (Some v) (Some e) (target_of edges e.0) ∷ leaves_of edges v es

-- the vertex with these children
abbrev pub with_children : List VertexId → Vertex → Vertex
with_children children x = record x { children = children }

-- the vertices with one child of v for each edge that leads from its node, in the order of the edges
abbrev pub expanded : Flow → List Vertex → VertexId → List Vertex
expanded g vs v =
    let es = outs g (vertex_at vs v.0).node in
    changed vs v.0 (with_children (numbers_from (length vs) (length es))) ++ leaves_of g.edges v es

-- the vertex with a further conjunct, and its version raised by one
abbrev pub with_conjunct : TermId → Vertex → Vertex
with_conjunct t x = record x { label = x.label ++ t ∷ []; version = x.version + 1 }

-- the vertices with a further conjunct at v
abbrev pub strengthened : List Vertex → VertexId → TermId → List Vertex
strengthened vs v t = changed vs v.0 (with_conjunct t)

-- a vertex is there, without children, and at a plain node, which is neither an error nor an end
abbrev pub MayExpand : Flow → Branches → VertexId → Type 0
MayExpand g t v =
    (v.0 < length t.vertices) × ((vertex_at t.vertices v.0).children ≡ [])
    × (slice_get g.nodes (vertex_at t.vertices v.0).node.0 ≡ Some Plain)

-- a vertex and a term of width 1 are there, and the vertex's version is below its greatest value
abbrev pub MayStrengthen : Branches → VertexId → TermId → Type 0
MayStrengthen t v conjunct =
    (v.0 < length t.vertices) × HasWidth t.terms conjunct 1 × ((vertex_at t.vertices v.0).version < 4294967295)

-- the vertex with another label and version
abbrev pub with_label : List TermId → ℕ → Vertex → Vertex
with_label label version x = record x { label = label; version = version }

-- the vertices with these labels and versions, put one after another
abbrev pub relabelled : List Vertex → List NewLabel → List Vertex
relabelled vs [] = vs
relabelled vs (l ∷ ls) = relabelled (changed vs l.vertex.0 (with_label l.label l.version)) ls
