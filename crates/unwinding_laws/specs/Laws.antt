-- Laws of unwindings, each named by a public contract.
use Rattle.std.specs.Prelude.{ℕ, ◌<◌, ◌≡◌, true, List, length, reverse, All, Contains, None, Some, slice_get}
use Rattle.lv_base.specs.declared.fault.ErrorKind.{ErrorKind}
use Rattle.bv_term.specs.declared.term.TermId.{TermId}
use Rattle.bv_term.specs.WellFormed.{Table}
use Rattle.bv_term.specs.Laws.{Extends}
use Rattle.c_graph.specs.declared.graph.EdgeId.{EdgeId}
use Rattle.c_graph.specs.declared.graph.Node.TheVariants.{Error}
use Rattle.c_graph.specs.Shape.{Flow, outs}
use Rattle.needed_cells.specs.Formulas.{AreChained}
use Rattle.reach_tree.specs.declared.vertex.VertexId.{VertexId}
use Rattle.reach_tree.specs.declared.vertex.Vertex.{Vertex}
use Rattle.reach_tree.specs.Trees.{target_of, vertex_at}
use Rattle.cover_engine.specs.Unwindings.{Unwound, is_open_leaf, path_of}
use Rattle.cover_engine.specs.Units.{CanRefine, Legal, edges_to}

-- an unwinding stays legal where its table grows, since the terms that are there keep their meaning
abbrev pub GrowingTablesKeepLegality : Type 0
GrowingTablesKeepLegality =
    (g : Flow) (u : Unwound) (table : Table) → Extends u.terms table → Legal g u → Legal g (record u { terms = table })

-- a vertex has a parent of a lower number, among whose children it is, and came by an edge of the graph that leads from
-- the parent's node to its own
pub record IsChild (g : Flow) (vs : List Vertex) (k : ℕ) : Type 0 where
  pub above : VertexId
  pub edge : EdgeId
  pub parent : (vertex_at vs k).parent ≡ Some above
  pub by : (vertex_at vs k).by ≡ Some edge
  pub lower : above.0 < k
  pub among : Contains (vertex_at vs above.0).children (record { 0 = k })
  pub leads : Contains (outs g (vertex_at vs above.0).node) edge
  pub there : edge.0 < length g.edges
  pub node : (vertex_at vs k).node ≡ target_of g.edges edge.0

-- a tree of paths: its first vertex is the root, at the entry, and each other one a child; both sides of each pair are
-- vertices, and the left side is not the root
pub record IsTree (g : Flow) (u : Unwound) : Type 0 where
  pub some : 0 < length u.vertices
  pub root : ((vertex_at u.vertices 0).parent ≡ None) × ((vertex_at u.vertices 0).by ≡ None) × ((vertex_at u.vertices 0).node ≡ g.entry)
  pub others : (k : ℕ) → 0 < k → k < length u.vertices → IsChild g u.vertices k
  pub pairs : All (λ p. (0 < p.0.0) × (p.0.0 < length u.vertices) × (p.1.0 < length u.vertices)) u.pairs

-- a legal unwinding is a tree of paths of its graph
abbrev pub LegalIsATree : Type 0
LegalIsATree = (g : Flow) (u : Unwound) → Legal g u → IsTree g u

-- the edges that lead to vertices of a legal unwinding are edges of the graph
abbrev pub LegalPathsAreOfEdges : Type 0
LegalPathsAreOfEdges = (g : Flow) (u : Unwound) (path : List ℕ) → Legal g u → All (λ e. e.0 < length g.edges) (edges_to u.vertices path)

-- formulas that are a chain along the edges of the path to an open leaf at an error make a legal Refine of the leaf
abbrev pub ChainsRefine : Type 0
ChainsRefine =
    (g : Flow) (u : Unwound) (v : VertexId) (fs : List TermId) (kind : ErrorKind) (at : ℕ)
    → Legal g u → v.0 < length u.vertices → is_open_leaf g u v ≡ true
    → slice_get g.nodes (vertex_at u.vertices v.0).node.0 ≡ Some (Error kind at)
    → AreChained g u.terms (edges_to u.vertices (reverse (path_of u.vertices v))) fs → CanRefine g u v fs
