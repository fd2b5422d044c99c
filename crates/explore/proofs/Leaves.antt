-- The node of an open leaf of a legal unwinding.
use Rattle.std.proofs.Common.{◌≡◌, ℕ, ◌<◌, ◌≤◌, ◌⊎◌, inl, inr, ◌&&◌, ◌||◌, Bool, true, false, not, All, List, [], ◌∷◌, length, Option, Some, None, slice_get, zero, suc, refl, sym, ap, ◌∙◌, subst, arith}
use Rattle.std.proofs.lemmas.Bool.{cases_eq}
use Rattle.std.proofs.lemmas.Option.{get_or_from_slice_get, slice_get_within}
use Rattle.lv_base.specs.declared.fault.ErrorKind.{ErrorKind}
use Rattle.bv_term.specs.WellFormed.{Table}
use Rattle.c_graph.specs.declared.graph.Node.{Node}
use Rattle.c_graph.specs.declared.graph.Node.TheVariants.{Plain, Error, End, Call}
use Rattle.c_graph.specs.declared.graph.Edge.{Edge}
use Rattle.c_graph.specs.Shape.{EdgeFits, Flow, IsFlow, IsNoCall}
use Rattle.reach_tree.specs.declared.vertex.VertexId.{VertexId}
use Rattle.reach_tree.specs.Trees.{target_of, vertex_at}
use Rattle.cover_engine.specs.Unwindings.{Unwound, is_covered, is_end, is_none, is_open_leaf, none_open, some_false}
use Rattle.cover_engine.specs.Units.{Legal}
use Rattle.unwinding_laws.specs.Laws.{IsChild, IsTree}
use Rattle.unwinding_laws.proofs.Rooting.{legal_tree}
use Rattle.refine.specs.Refinements.{IsErrorLeaf}
use Rattle.explore.specs.Ends.{is_plain, is_plain_at}

target_in : (nodes : List Node) (table : Table) (edges : List Edge) (k : ℕ) → All (EdgeFits nodes table) edges → k < length edges
    → (target_of edges k).0 < length nodes
target_in nodes table [] k all lt = absurd (omega (arith, lt))
target_in nodes table (e ∷ edges) zero all lt = (all 0 e (omega arith)).to
target_in nodes table (e ∷ edges) (suc k) all lt =
    target_in nodes table edges k (λ j d less. all (suc j) d (omega (arith, less))) (omega (arith, lt))

-- it is one of the graph
pub node_in : (g : Flow) (u : Unwound) (k : ℕ) → IsFlow g → IsTree g u → k < length u.vertices → (vertex_at u.vertices k).node.0 < length g.nodes
node_in g u zero flow t lt = subst (λ n. n.0 < length g.nodes) (sym t.root.2) flow.entry
node_in g u (suc k) flow t lt =
    let c : IsChild g u.vertices (suc k) = t.others (suc k) (omega arith) lt in
    subst (λ n. n.0 < length g.nodes) (sym c.node) (target_in g.nodes g.terms g.edges c.edge.0 flow.edges c.there)

past_none : (nodes : List Node) (k : ℕ) → slice_get nodes k ≡ None → length nodes ≤ k
past_none [] k e = omega arith
past_none (x ∷ nodes) zero e = absurd cc
past_none (x ∷ nodes) (suc k) e = let le = past_none nodes k e in omega (arith, le)

-- it is no end
not_end : (a b c d : Bool) → (a && (not (b || c) && d)) ≡ true → c ≡ false
not_end true true c d e = absurd cc
not_end true false true d e = absurd cc
not_end true false false d e = refl
not_end false b c d e = absurd cc

-- an open leaf from whose node no edge leads on is at an error
pub error_leaf : (g : Flow) (u : Unwound) (v : VertexId) → IsFlow g → Legal g u → v.0 < length u.vertices → is_open_leaf g u v ≡ true
    → is_plain_at g u v ≡ false → IsErrorLeaf g u v
error_leaf g u v flow legal lt is-open plain = record { leaf = is-open; node = by (slice_get g.nodes at) refl }
  where
    at : ℕ
    at = (vertex_at u.vertices v.0).node.0

    by : (o : Option Node) → slice_get g.nodes at ≡ o → (kind : ErrorKind) × ((offset : ℕ) × (slice_get g.nodes at ≡ Some (Error kind offset)))
    by None e =
        let in-graph = node_in g u v.0 flow (legal_tree g u legal) lt in
        let past = past_none g.nodes at e in
        absurd (omega (arith, in-graph, past))
    by (Some Plain) e = let no : is_plain (Some Plain) ≡ false = ap is_plain (sym e) ∙ plain in absurd cc
    by (Some (Error kind offset)) e = (kind, (offset, e))
    by (Some End) e =
        let ends : is_end (slice_get g.nodes at) ≡ true = ap is_end e in
        let none : is_end (slice_get g.nodes at) ≡ false =
        not_end (is_none (vertex_at u.vertices v.0).children) (some_false u.terms (vertex_at u.vertices v.0).label) (is_end (slice_get g.nodes at))
        (not (is_covered u v)) is-open in
        absurd cc
    by (Some (Call f n)) e =
        let less = slice_get_within g.nodes at (Call f n) e in
        absurd (subst IsNoCall (get_or_from_slice_get g.nodes at (Call f n) (Call f n) e) (flow.no_calls at (Call f n) less))

-- a node from which edges lead on
pub plain_node : (o : Option Node) → is_plain o ≡ true → o ≡ Some Plain
plain_node None e = absurd cc
plain_node (Some Plain) e = refl
plain_node (Some (Error kind offset)) e = absurd cc
plain_node (Some End) e = absurd cc
plain_node (Some (Call f n)) e = absurd cc

both-false : (a b : Bool) → b ≡ false → (a && b) ≡ false
both-false true b e = e
both-false false b e = refl

-- an unwinding with an open leaf is not complete
pub open_incomplete : (g : Flow) (u : Unwound) (n : ℕ) (v : VertexId) → v.0 < n → is_open_leaf g u v ≡ true → none_open g u n ≡ false
open_incomplete g u zero v lt is-open = absurd (omega (arith, lt))
open_incomplete g u (suc n) v lt is-open = way (cases_eq v.0 n) (λ less. open_incomplete g u n v less is-open)
  where
    last : VertexId
    last = record { 0 = n }

    way : (v.0 ≡ n) ⊎ (v.0 ≡ n → ⊥) → (v.0 < n → none_open g u n ≡ false) → (not (is_open_leaf g u last) && none_open g u n) ≡ false
    way (inl e) f =
        let same : v ≡ last = ap (λ (k : ℕ). let w : VertexId = record { 0 = k } in w) e in
        let here : is_open_leaf g u last ≡ true = subst (λ (w : VertexId). is_open_leaf g u w ≡ true) same is-open in
        ap (λ (b : Bool). not b && none_open g u n) here
    way (inr n1) f = both-false (not (is_open_leaf g u last)) (none_open g u n) (f (omega (arith, lt, n1)))
