-- Each edge that leads from a node is among those that are listed for it.
use Rattle.std.proofs.Common.{◌≡◌, ◌∙◌, ℕ, ◌+◌, true, List, [], ◌∷◌, Some, zero, suc, ap, sym, arith, subst, slice_get, nat_eq, ◌⊎◌, inl, inr}
use Rattle.std.proofs.lemmas.Bool.{cases_Bool, eq-eqb}
use Rattle.c_graph.specs.declared.graph.NodeId.{NodeId}
use Rattle.c_graph.specs.declared.graph.EdgeId.{EdgeId}
use Rattle.c_graph.specs.declared.graph.Edge.{Edge}
use Rattle.c_graph.specs.declared.graph.Node.TheVariants.{Plain}
use Rattle.c_graph.specs.Shape.{Flow, outs, outs_from}
use Rattle.block_steps.specs.Cursors.{AreSides}

abbrev pub edge_id : ℕ → EdgeId
edge_id n = record { 0 = n }

-- one of the elements
abbrev pub Among : List EdgeId → EdgeId → Type 0
Among xs x = (j : ℕ) × (slice_get xs j ≡ Some x)

behind : (x y : EdgeId) (xs : List EdgeId) → Among xs y → Among (x ∷ xs) y
behind x y xs (j, s) = (suc j, s)

pub leaving_from : (n : ℕ) (es : List Edge) (v : NodeId) (k : ℕ) (e : Edge) → slice_get es k ≡ Some e → e.from.0 ≡ v.0 → Among (outs_from n es v) (edge_id (n + k))
leaving_from n [] v k e s f = absurd (cc)
leaving_from n (x ∷ es) v zero e s f =
    let q : x ≡ e = cc in
    let y : nat_eq x.from.0 v.0 ≡ true = eq-eqb x.from.0 v.0 (ap (λ (w : Edge). w.from.0) q ∙ f) in
    let z : n ≡ n + 0 = omega arith in
    rw y (zero, ap (λ (m : ℕ). Some (edge_id m)) z)
leaving_from n (x ∷ es) v (suc k) e s f =
    let z : n + 1 + k ≡ n + suc k = omega arith in
    let ih : Among (outs_from (n + 1) es v) (edge_id (n + suc k)) = subst (λ (m : ℕ). Among (outs_from (n + 1) es v) (edge_id m)) z (leaving_from (n + 1) es v k e s f) in
    elim (cases_Bool (nat_eq x.from.0 v.0)) [
      | inl y ↦ rw y (behind (edge_id n) (edge_id (n + suc k)) (outs_from (n + 1) es v) ih)
      | inr m ↦ rw m ih
    ]

-- the number of an edge is among those of its node
pub leaving : (g : Flow) (v : NodeId) (k : ℕ) (e : Edge) → slice_get g.edges k ≡ Some e → e.from.0 ≡ v.0 → Among (outs g v) (edge_id k)
leaving g v k e s f =
    let z : 0 + k ≡ k = omega arith in
    subst (λ (m : ℕ). Among (outs g v) (edge_id m)) z (leaving_from 0 g.edges v k e s f)

-- where each number that is listed for a plain node is one of two, no other edges lead from there
pub sides-all : (h : Flow) (w a b : ℕ) (all : List EdgeId) → slice_get h.nodes w ≡ Some Plain → all ≡ outs h (record { 0 = w })
    → ((j : ℕ) (id : EdgeId) → slice_get all j ≡ Some id → (id.0 ≡ a) ⊎ (id.0 ≡ b)) → AreSides h w a b
sides-all h w a b all plain is among = record {
  plain = plain;
  only = λ k e there from.
      let (j, at) = leaving h (record { 0 = w }) k e there from in
      among j (edge_id k) (subst (λ (xs : List EdgeId). slice_get xs j ≡ Some (edge_id k)) (sym is) at);
}
