-- The graph of a loop, the table of its labels' terms, and which formulas follow along its edges.
use Rattle.std.specs.Prelude.{ℕ, ◌==◌, ◌&&◌, ◌||◌, ◌≡◌, Bool, true, false, nat_le, nat_lt, length, slice_get, None, List, [], ◌∷◌, Option, Some}
use Rattle.lv_base.specs.declared.fault.ErrorKind.{ErrorKind}
use Rattle.lv_base.specs.declared.fault.ErrorKind.TheVariants.{Reach}
use Rattle.bv_term.specs.declared.term.TermId.{TermId}
use Rattle.bv_term.specs.declared.term.Term.{Term}
use Rattle.bv_term.specs.declared.term.Term.TheVariants.{Constant, Cell, Equal, Not}
use Rattle.bv_term.specs.WellFormed.{Table}
use Rattle.c_graph.specs.declared.graph.NodeId.{NodeId}
use Rattle.c_graph.specs.declared.graph.Node.{Node}
use Rattle.c_graph.specs.declared.graph.Node.TheVariants.{Plain, Error, End, Call}
use Rattle.c_graph.specs.declared.graph.Operation.{Operation}
use Rattle.c_graph.specs.declared.graph.Operation.TheVariants.{Assume, Set, Draw}
use Rattle.c_graph.specs.declared.graph.Edge.{Edge}
use Rattle.c_graph.specs.declared.graph.Cell as cell
use Rattle.c_graph.specs.declared.graph.Origin.TheVariants.{Element, Saved}
use Rattle.c_graph.specs.Shape.{Flow}
use Rattle.c_graph.specs.Steps.{IsWhole}
use Rattle.reach_tree.specs.Trees.{vertex_at}
use Rattle.reach_tree.specs.declared.vertex.VertexId.{VertexId}
use Rattle.cover_engine.specs.Unwindings.{Unwound, is_open_leaf}
use Rattle.cover_engine.specs.Units.{Legal, Meets, after_refine, after_part}
use Rattle.loop_journey.specs.declared.formula.Formula.{Formula}
use Rattle.loop_journey.specs.declared.formula.Formula.TheVariants.{Always, IsZero, Never}

abbrev pub term : ℕ → TermId
term n = record { 0 = n }

abbrev pub node : ℕ → NodeId
node n = record { 0 = n }

-- x = 0, x ≠ 0, drawn = 0, drawn ≠ 0 are terms 2, 3, 5, 6
abbrev pub loop_terms : List Term
loop_terms =
    Constant 32 0 ∷ Cell 0 ∷ Equal (term 1) (term 0) ∷ Not (term 2) ∷ Cell 1 ∷ Equal (term 4) (term 0) ∷ Not (term 5) ∷ []

abbrev pub loop_nodes : List Node
loop_nodes = Plain ∷ Plain ∷ Error Reach 71 ∷ Plain ∷ Plain ∷ End ∷ []

abbrev pub edge : ℕ → ℕ → Operation → Edge
edge from to operation = record { from = node from; to = node to; ops = operation ∷ [] }

-- x = 0; at node 1 an error where x ≠ 0; then a draw, from which it goes back to node 1, or to the last node
abbrev pub loop_edges : ℕ → List Edge
loop_edges last =
    edge 0 1 (Set 0 (term 0)) ∷ edge 1 2 (Assume (term 3)) ∷ edge 1 3 (Assume (term 2)) ∷ edge 3 4 (Draw 1 true)
    ∷ edge 4 1 (Assume (term 6)) ∷ edge 4 last (Assume (term 5)) ∷ []

abbrev pub loop_cells : List cell.Cell
loop_cells = record { width = 32; origin = Element 0 0 } ∷ record { width = 32; origin = Saved } ∷ []

abbrev pub loop_flow : ℕ → Flow
loop_flow last = record {
  nodes = loop_nodes;
  edges = loop_edges last;
  cells = loop_cells;
  terms = record { cells = 32 ∷ 32 ∷ []; terms = loop_terms };
  entry = node 0;
  loops = [];
}

-- the terms of the labels: term 2 is x = 0, term 3 true, term 4 false
abbrev pub label_terms : List Term
label_terms = Constant 32 0 ∷ Cell 0 ∷ Equal (term 1) (term 0) ∷ Constant 1 1 ∷ Constant 1 0 ∷ []

abbrev pub label_table : Table
label_table = record { cells = 32 ∷ 32 ∷ []; terms = label_terms }

abbrev pub term_of : Formula → TermId
term_of IsZero = term 2
term_of Always = term 3
term_of Never = term 4

-- the first formula with the edge of the number implies the other: true follows always; x = 0 is set by edge 0, asked for
-- by edge 2 and kept by those behind it; edge 1 asks for its opposite
abbrev pub is_followed : Formula → ℕ → Formula → Bool
is_followed Always e Always = true
is_followed Always e IsZero = e == 0 || e == 2
is_followed IsZero e IsZero = nat_le 2 e && nat_le e 5
is_followed IsZero e Never = e == 1
is_followed _ e _ = false

-- a legal unwinding of the loop's graph over the table of labels
pub record Travels (g : Flow) (u : Unwound) : Type 0 where
  pub graph : (last : ℕ) × (g ≡ loop_flow last)
  pub terms : u.terms ≡ label_table
  pub legal : Legal g u

abbrev pub vertex : ℕ → VertexId
vertex n = record { 0 = n }

-- the loop's graph and an unwinding of it
pub record Travelled : Type 0 where
  pub flow : Flow
  pub unwound : Unwound

-- the node is an error
abbrev pub IsErrorNode : Option Node → Type 0
IsErrorNode node = (kind : ErrorKind) × ((at : ℕ) × (node ≡ Some (Error kind at)))

-- the store is one of the table's cells that meets the first vertex's label and not the second's
pub record Parts (u : Unwound) (store : List ℕ) (v w : ℕ) : Type 0 where
  pub whole : IsWhole u.terms.cells store
  pub meets : Meets u.terms store (vertex_at u.vertices v).label
  pub misses : Meets u.terms store (vertex_at u.vertices w).label → ⊥

-- what a Refine makes that may come to nothing
abbrev pub IsRefined : Bool → Unwound → VertexId → Unwound → Type 0
IsRefined true before v after = (fs : List TermId) × (after ≡ after_refine before v fs)
IsRefined false before v after = after ≡ before

-- what a CoverNo makes that may come to nothing
abbrev pub IsParted : Bool → Unwound → VertexId → VertexId → Unwound → Type 0
IsParted true before v w after = (store : List ℕ) × (after ≡ after_part before v w store)
IsParted false before v w after = after ≡ before

abbrev pub is_plain : Option Node → Bool
is_plain (Some Plain) = true
is_plain (Some (Error _ _)) = false
is_plain (Some End) = false
is_plain (Some (Call _ _)) = false
is_plain None = false

-- the vertex is there, at a plain node, and an open leaf
abbrev pub is_expandable : Flow → Unwound → VertexId → Bool
is_expandable g u v = nat_lt v.0 (length u.vertices) && (is_plain (slice_get g.nodes (vertex_at u.vertices v.0).node.0) && is_open_leaf g u v)
