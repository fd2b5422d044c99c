-- Places in the edges of a graph, and the code that the graph has from there on.
use Rattle.std.specs.Prelude.{ℕ, ◌+◌, ◌≡◌, ◌⊎◌, List, length, take, slice_get, Some}
use Rattle.bv_term.specs.declared.term.TermId.{TermId}
use Rattle.c_graph.specs.declared.graph.Edge.{Edge}
use Rattle.c_graph.specs.declared.graph.Node.TheVariants.{Plain}
use Rattle.c_graph.specs.declared.graph.Operation.{Operation}
use Rattle.c_graph.specs.declared.graph.Operation.TheVariants.{Assume}
use Rattle.c_graph.specs.Shape.{Flow}
use Rattle.block_rule.specs.Deeds.{Deed, Code, AreDeeds, Has, Sound}
use Rattle.block_edges.specs.Exact.{OneOf}
use Rattle.block_steps.specs.declared.cursor.Cursor.{Cursor}

-- from behind the first operations of an edge on, which did these deeds, the graph has the code, and the edge is one of the code's; the
-- code's cells are there
pub record Meets (h : Flow) (k : Cursor) (code : Code) : Type 0 where
  pub sound : Sound (length h.cells) code
  pub has : (e : Edge) (ds : List Deed) → slice_get h.edges k.edge_at ≡ Some e → AreDeeds h.terms (take k.op_at e.ops) ds → Has h e.from.0 ds code
  pub one : (e : Edge) (ds : List Deed) → slice_get h.edges k.edge_at ≡ Some e → AreDeeds h.terms (take k.op_at e.ops) ds → OneOf h ds code e

-- the operation is the next of an edge
abbrev pub OpAt : Flow → Cursor → Operation → Type 0
OpAt h k op = (e : Edge) × ((slice_get h.edges k.edge_at ≡ Some e) × (slice_get e.ops k.op_at ≡ Some op))

-- the second place is one operation behind the first
abbrev pub IsBehind : Cursor → Cursor → Type 0
IsBehind k n = (n.edge_at ≡ k.edge_at) × (n.op_at ≡ k.op_at + 1)

-- all operations of an edge to the node are done
abbrev pub EndAt : Flow → Cursor → ℕ → Type 0
EndAt h k to = (e : Edge) × ((slice_get h.edges k.edge_at ≡ Some e) × (k.op_at ≡ length e.ops) × (e.to.0 ≡ to))

-- an edge from the node begins with an Assume of the term, and the place is behind it
abbrev pub SideAt : Flow → Cursor → ℕ → TermId → Type 0
SideAt h k w t =
    (e : Edge) × ((slice_get h.edges k.edge_at ≡ Some e) × (e.from.0 ≡ w) × (k.op_at ≡ 1) × (slice_get e.ops 0 ≡ Some (Assume t)))

-- an edge from the node has one of these two numbers
abbrev pub IsSide : Flow → ℕ → ℕ → ℕ → ℕ → Type 0
IsSide h w a b k = (e : Edge) → slice_get h.edges k ≡ Some e → e.from.0 ≡ w → (k ≡ a) ⊎ (k ≡ b)

-- the node is plain, and no other edges lead from it than those of these two numbers
pub record AreSides (h : Flow) (w a b : ℕ) : Type 0 where
  pub plain : slice_get h.nodes w ≡ Some Plain
  pub only : (k : ℕ) → IsSide h w a b k
