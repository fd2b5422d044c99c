-- What it is for an unwinding to be well labelled.
use Rattle.std.specs.Prelude.{ℕ, ℤ, ◌<◌, ◌≡◌, ◌⊎◌, List, [], ◌∷◌, length, All, Some, slice_get, false}
use Rattle.c_graph.specs.declared.graph.Node.TheVariants.{Plain}
use Rattle.c_graph.specs.declared.graph.EdgeId.{EdgeId}
use Rattle.c_graph.specs.declared.graph.Edge.{Edge}
use Rattle.c_graph.specs.Shape.{Flow, IsFlow, outs, widths_of}
use Rattle.c_graph.specs.Steps.{IsWhole, Leads}
use Rattle.bv_term.specs.WellFormed.{IsTable}
use Rattle.reach_tree.specs.declared.vertex.VertexId.{VertexId}
use Rattle.reach_tree.specs.declared.vertex.Vertex.{Vertex}
use Rattle.reach_tree.specs.Trees.{vertex_at}
use Rattle.cover_engine.specs.Unwindings.{Unwound, is_above, is_covered}
use Rattle.cover_engine.specs.Units.{Implies, Legal, Meets}

-- v's label with the edge of its child implies the child's label
abbrev pub ChildFollows : Flow → Unwound → VertexId → VertexId → Type 0
ChildFollows g u v c =
    (e : EdgeId) × ((vertex_at u.vertices c.0).by ≡ Some e)
    × ((edge : Edge) (store : List ℕ) (draws : List ℤ) (after : List ℕ)
    → slice_get g.edges e.0 ≡ Some edge → IsWhole (widths_of g.cells) store
    → Meets u.terms store (vertex_at u.vertices v.0).label → Leads g.terms edge store draws after
    → Meets u.terms after (vertex_at u.vertices c.0).label)

-- the edges that lead to these vertices are these, in order
abbrev pub LedBy : List Vertex → List VertexId → List EdgeId → Type 0
LedBy vs [] [] = Unit {0}
LedBy vs [] (e ∷ es) = ⊥
LedBy vs (c ∷ cs) [] = ⊥
LedBy vs (c ∷ cs) (e ∷ es) = ((vertex_at vs c.0).by ≡ Some e) × LedBy vs cs es

-- a vertex has no children, or exactly one for each edge that leads from its node, which is then a plain one
abbrev pub IsWholeFamily : Flow → Unwound → VertexId → Type 0
IsWholeFamily g u v =
    ((vertex_at u.vertices v.0).children ≡ [])
    ⊎ (LedBy u.vertices (vertex_at u.vertices v.0).children (outs g (vertex_at u.vertices v.0).node)
    × (slice_get g.nodes (vertex_at u.vertices v.0).node.0 ≡ Some Plain))

-- a pair is of one node, the left label implies the right, the right side is uncovered, and the left side is neither the
-- right side nor an ancestor of it
abbrev pub PairHolds : Flow → Unwound → VertexId → VertexId → Type 0
PairHolds g u v w =
    ((vertex_at u.vertices v.0).node ≡ (vertex_at u.vertices w.0).node)
    × Implies g u.terms (vertex_at u.vertices v.0).label (vertex_at u.vertices w.0).label
    × (is_covered u w ≡ false) × (is_above u.vertices v w ≡ false)

pub record WellLabelled (g : Flow) (u : Unwound) : Type 0 where
  pub root : (store : List ℕ) → IsWhole (widths_of g.cells) store → Meets u.terms store (vertex_at u.vertices 0).label
  pub follows : (v : VertexId) → v.0 < length u.vertices → All (ChildFollows g u v) (vertex_at u.vertices v.0).children
  pub families : (v : VertexId) → v.0 < length u.vertices → IsWholeFamily g u v
  pub pairs : All (λ p. PairHolds g u p.0 p.1) u.pairs

-- a legal unwinding is well labelled
abbrev pub LegalIsWellLabelled : Type 0
LegalIsWellLabelled = (g : Flow) (u : Unwound) → IsFlow g → IsTable u.terms → Legal g u → WellLabelled g u
