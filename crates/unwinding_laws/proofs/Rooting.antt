-- The tree of a legal unwinding: one root at the entry, and below it edges of the graph.
use Rattle.std.proofs.Common.{◌≡◌, ◌≢◌, ℕ, ◌+◌, ◌-◌, ◌<◌, ◌≤◌, Bool, true, false, List, [], ◌∷◌, ◌++◌, length, Option, Some, None, inl, inr, refl, sym, ap, ◌∙◌, subst, arith, zero, suc, nat_eq, eq-eqb, slice_index_or, reverse, length-append}
use Rattle.std.specs.List.{All}
use Rattle.std.specs.Prelude.{Contains}
use Rattle.std.proofs.lemmas.Bool.{both_ways, cases_eq, cases_lt, or_left, or_right}
use Rattle.std.proofs.lemmas.List.{get_or_default}
use Rattle.std.proofs.Math.ListN.{get_or-eq_default}
use Rattle.bv_term.specs.declared.term.TermId.{TermId}
use Rattle.bv_term.specs.WellFormed.{Table}
use Rattle.c_graph.specs.declared.graph.NodeId.{NodeId}
use Rattle.c_graph.specs.declared.graph.EdgeId.{EdgeId}
use Rattle.c_graph.specs.declared.graph.Edge.{Edge}
use Rattle.c_graph.specs.Shape.{Flow, outs}
use Rattle.reach_tree.specs.declared.vertex.VertexId.{VertexId}
use Rattle.reach_tree.specs.declared.vertex.Vertex.{Vertex}
use Rattle.reach_tree.specs.Trees.{changed, expanded, fresh, leaves_of, numbers_from, root_at, target_of, vertex_at, with_children}
use Rattle.reach_tree.proofs.Growth.{length-leaves, length-numbers, outs-below}
use Rattle.cover_engine.specs.declared.unit.UnitDone.{UnitDone}
use Rattle.cover_engine.specs.declared.unit.UnitDone.TheVariants.{Expand, Refine, CoverYes, CoverNo}
use Rattle.cover_engine.specs.Unwindings.{Unwound, Pair, has, path_of, path_up}
use Rattle.cover_engine.specs.Caches.{SameShape}
use Rattle.cover_engine.specs.Units.{Can, CanAll, Legal, after, after_all, edge_in, edges_to, refined_along, start}
use Rattle.cover_engine.specs.WellLabelled.{PairHolds}
use Rattle.cover_engine.proofs.Labelling.{refined_edges, refined_nodes, refined_shape}
use Rattle.cover_engine.proofs.UnitLemmas.{open-childless}
use Rattle.cover_engine.proofs.Subtrees.{path_some}
use Rattle.unwinding_laws.specs.Laws.{IsChild, IsTree}
use Rattle.unwinding_laws.proofs.Vertices.{changed_length, changed_other, changed_same, vertex_back, vertex_front}
use Rattle.unwinding_laws.proofs.Units.{Good}
use Rattle.unwinding_laws.proofs.Journals.{legal_good}

-- what is kept from unit to unit
record Rooted (g : Flow) (vs : List Vertex) : Type 0 where
  some : 0 < length vs
  root : ((vertex_at vs 0).parent ≡ None) × ((vertex_at vs 0).by ≡ None) × ((vertex_at vs 0).node ≡ g.entry)
  others : (k : ℕ) → 0 < k → k < length vs → IsChild g vs k

-- a child of an old tree is one of a tree in which these readings are as they were
child_stays : (g : Flow) (vs ws : List Vertex) (k : ℕ) (c : IsChild g vs k) → (vertex_at ws k).parent ≡ (vertex_at vs k).parent → (vertex_at ws k).by ≡ (vertex_at vs k).by → (vertex_at ws k).node ≡ (vertex_at vs k).node
    → (vertex_at ws c.above.0).children ≡ (vertex_at vs c.above.0).children → (vertex_at ws c.above.0).node ≡ (vertex_at vs c.above.0).node → IsChild g ws k
child_stays g vs ws k c p b n cs m = record {
  above = c.above;
  edge = c.edge;
  parent = p ∙ c.parent;
  by = b ∙ c.by;
  lower = c.lower;
  among = subst (λ (xs : List VertexId). Contains xs (record { 0 = k })) (sym cs) c.among;
  leads = subst (λ (x : NodeId). Contains (outs g x) c.edge) (sym m) c.leads;
  there = c.there;
  node = n ∙ c.node;
}

-- Refine.

rooted_refine : (g : Flow) (table : Table) (vs : List Vertex) (xs : List ℕ) (fs : List TermId) → Rooted g vs → Rooted g (refined_along table vs xs fs)
rooted_refine g table vs xs fs h =
    let shape : SameShape vs (refined_along table vs xs fs) = refined_shape table vs xs fs in
    record {
      some = omega (arith, h.some, shape.sized);
      root = (shape.parents 0 ∙ h.root.0, refined_edges table vs xs fs 0 ∙ h.root.1, refined_nodes table vs xs fs 0 ∙ h.root.2);
      others = λ k above lt.
          let c : IsChild g vs k = h.others k above (omega (arith, lt, shape.sized)) in
          child_stays g vs (refined_along table vs xs fs) k c (shape.parents k) (refined_edges table vs xs fs k) (refined_nodes table vs xs fs k) (shape.children c.above.0) (refined_nodes table vs xs fs c.above.0);
    }

-- Expand.

leaf_at : (edges : List Edge) (v : VertexId) (es : List EdgeId) (j : ℕ) (d : EdgeId) → j < length es
    → vertex_at (leaves_of edges v es) j ≡ fresh (Some v) (Some (slice_index_or es j d)) (target_of edges (slice_index_or es j d).0)
leaf_at edges v [] j d lt = absurd (omega (arith, lt))
leaf_at edges v (e ∷ es) zero d lt = refl
leaf_at edges v (e ∷ es) (suc j) d lt = leaf_at edges v es j d (omega (arith, lt))

number_at : (n k j : ℕ) (d : VertexId) → j < k → slice_index_or (numbers_from n k) j d ≡ record { 0 = n + j }
number_at n zero j d lt = absurd (omega (arith, lt))
number_at n (suc k) zero d lt = let F : ℕ → VertexId = λ m. record { 0 = m } in let e : n ≡ n + 0 = omega arith in ap F e
number_at n (suc k) (suc j) d lt = let F : ℕ → VertexId = λ m. record { 0 = m } in let e : (n + 1) + j ≡ n + suc j = omega arith in number_at (n + 1) k j d (omega (arith, lt)) ∙ ap F e

module _ (g : Flow) (vs : List Vertex) (v : VertexId) (lv : v.0 < length vs) (none : (vertex_at vs v.0).children ≡ []) where
  abbrev es : List EdgeId
  es = outs g (vertex_at vs v.0).node

  abbrev cs : List VertexId
  cs = numbers_from (length vs) (length es)

  abbrev base : List Vertex
  base = changed vs v.0 (with_children cs)

  abbrev made : List Vertex
  made = base ++ leaves_of g.edges v es

  base_sized : length base ≡ length vs
  base_sized = changed_length vs v.0 (with_children cs)

  made_sized : length made ≡ length vs + length es
  made_sized = length-append base (leaves_of g.edges v es) ∙ omega (arith, base_sized, length-leaves g.edges v es)

  other : (k : ℕ) → k < length vs → k ≢ v.0 → vertex_at made k ≡ vertex_at vs k
  other k lt ne = vertex_front base (leaves_of g.edges v es) k (omega (arith, lt, base_sized)) ∙ changed_other vs v.0 k (with_children cs) ne

  this : vertex_at made v.0 ≡ with_children cs (vertex_at vs v.0)
  this = vertex_front base (leaves_of g.edges v es) v.0 (omega (arith, lv, base_sized)) ∙ changed_same vs v.0 (with_children cs) lv

  part : {A : Type 0} (f : Vertex → A) → ((x : Vertex) → f (with_children cs x) ≡ f x) → (k : ℕ) → k < length vs → f (vertex_at made k) ≡ f (vertex_at vs k)
  part f h k lt = elim (cases_eq k v.0) [
    | inl e ↦ subst (λ (j : ℕ). f (vertex_at made j) ≡ f (vertex_at vs j)) (sym e) (ap f this ∙ h (vertex_at vs v.0))
    | inr ne ↦ ap f (other k lt ne)
  ]

  old_child : (k : ℕ) → k < length vs → IsChild g vs k → IsChild g made k
  old_child k lt c =
      let apart : c.above.0 ≢ v.0 = λ e. (
      let empty : (vertex_at vs c.above.0).children ≡ [] = subst (λ (j : ℕ). (vertex_at vs j).children ≡ []) (sym e) none in
      let size : length (vertex_at vs c.above.0).children ≡ 0 = ap (λ (xs : List VertexId). length xs) empty in
      omega (arith, size, c.among.1)) in
      let la : c.above.0 < length vs = omega (arith, lt, c.lower) in
      child_stays g vs made k c (part (λ x. x.parent) (λ x. refl) k lt) (part (λ x. x.by) (λ x. refl) k lt) (part (λ x. x.node) (λ x. refl) k lt)
      (ap (λ (x : Vertex). x.children) (other c.above.0 la apart)) (part (λ x. x.node) (λ x. refl) c.above.0 la)

  new_child : (k : ℕ) → length vs ≤ k → k < length made → IsChild g made k
  new_child k le lt =
      let d : EdgeId = record { 0 = 0 } in
      let j : ℕ = k - length vs in
      let lj : k - length vs < length es = omega (arith, le, lt, made_sized) in
      let at : length base + (k - length vs) ≡ k = omega (arith, base_sized, le) in
      let is : vertex_at made k ≡ fresh (Some v) (Some (slice_index_or es (k - length vs) (record { 0 = 0 }))) (target_of g.edges (slice_index_or es (k - length vs) (record { 0 = 0 })).0) =
      subst (λ (i : ℕ). vertex_at made i ≡ vertex_at (leaves_of g.edges v es) (k - length vs)) at (vertex_back base (leaves_of g.edges v es) (k - length vs)) ∙ leaf_at g.edges v es (k - length vs) (record { 0 = 0 }) lj in
      let F : ℕ → VertexId = λ m. record { 0 = m } in
      let sum : length vs + (k - length vs) ≡ k = omega (arith, le) in
      let sized : length cs ≡ length es = length-numbers (length vs) (length es) in
      let among : Contains cs (record { 0 = k }) = (k - length vs, omega (arith, lj, sized), number_at (length vs) (length es) (k - length vs) (record { 0 = k }) lj ∙ ap F sum) in
      let leads : Contains es (slice_index_or es (k - length vs) (record { 0 = 0 })) = (k - length vs, lj, get_or_default es (k - length vs) (slice_index_or es (k - length vs) (record { 0 = 0 })) (record { 0 = 0 }) lj) in
      let below : (slice_index_or es (k - length vs) (record { 0 = 0 })).0 < 0 + length g.edges = outs-below 0 g.edges (vertex_at vs v.0).node (k - length vs) (record { 0 = 0 }) lj in
      record {
        above = v;
        edge = slice_index_or es (k - length vs) (record { 0 = 0 });
        parent = ap (λ (x : Vertex). x.parent) is;
        by = ap (λ (x : Vertex). x.by) is;
        lower = omega (arith, lv, le);
        among = subst (λ (xs : List VertexId). Contains xs (record { 0 = k })) (sym (ap (λ (x : Vertex). x.children) this)) among;
        leads = subst (λ (n : NodeId). Contains (outs g n) (slice_index_or es (k - length vs) (record { 0 = 0 }))) (sym (part (λ x. x.node) (λ x. refl) v.0 lv)) leads;
        there = omega (arith, below);
        node = ap (λ (x : Vertex). x.node) is;
      }

  rooted_expand : Rooted g vs → Rooted g made
  rooted_expand h = record {
    some = omega (arith, h.some, made_sized);
    root = (part (λ x. x.parent) (λ x. refl) 0 h.some ∙ h.root.0, part (λ x. x.by) (λ x. refl) 0 h.some ∙ h.root.1, part (λ x. x.node) (λ x. refl) 0 h.some ∙ h.root.2);
    others = λ k above lt. elim (cases_lt k (length vs)) [
      | inl a ↦ old_child k a (h.others k above a)
      | inr b ↦ new_child k b lt
    ];
  }

-- Units.

rooted_unit : (g : Flow) (u : Unwound) (x : UnitDone) → Rooted g u.vertices → Can g u x → Rooted g (after g u x).vertices
rooted_unit g u (Expand v) h can = rooted_expand g u.vertices v can.vertex (open-childless g u v can.leaf) h
rooted_unit g u (Refine v fs) h can = rooted_refine g u.terms u.vertices (path_of u.vertices v) (reverse fs) h
rooted_unit g u (CoverYes v w) h can = h
rooted_unit g u (CoverNo v w store) h can = h

rooted_all : (g : Flow) (u : Unwound) (xs : List UnitDone) → Rooted g u.vertices → CanAll g u xs → Rooted g (after_all g u xs).vertices
rooted_all g u [] h can = h
rooted_all g u (x ∷ xs) h can = rooted_all g (after g u x) xs (rooted_unit g u x h can.0) can.1

rooted_start : (g : Flow) → Rooted g (root_at g.entry ∷ [])
rooted_start g = record { some = omega arith; root = (refl, refl, refl); others = λ k above lt. absurd (omega (arith, above, lt)) }

rooted_legal : (g : Flow) (u : Unwound) → Legal g u → Rooted g u.vertices
rooted_legal g u l = subst (λ (w : Unwound). Rooted g w.vertices) (sym l.made) (rooted_all g (start g u.terms) u.journal (rooted_start g) l.units)

-- the root stands on each path
root_above : (g : Flow) (vs : List Vertex) → Rooted g vs → (n k : ℕ) → k < n → k < length vs → has 0 (path_up vs n k) ≡ true
root_above g vs h zero k lt lk = absurd (omega (arith, lt))
root_above g vs h (suc n) k lt lk = elim (cases_lt 0 k) [
  | inl above ↦
      let c : IsChild g vs k = h.others k above lk in
      subst (λ (xs : List ℕ). has 0 xs ≡ true) (sym (path_some vs n k c.above c.parent))
      (or_right (nat_eq k 0) (has 0 (path_up vs n c.above.0)) (root_above g vs h n c.above.0 (omega (arith, lt, c.lower)) (omega (arith, lk, c.lower))))
  | inr zero' ↦ or_left (nat_eq k 0) _ (eq-eqb k 0 (omega (arith, zero')))
]

pub legal_tree : (g : Flow) (u : Unwound) → Legal g u → IsTree g u
legal_tree g u l =
    let h : Rooted g u.vertices = rooted_legal g u l in
    let good : Good g u = legal_good g u l in
    record {
      some = h.some;
      root = h.root;
      others = h.others;
      pairs = λ k d lt.
          let p : Pair = slice_index_or u.pairs k d in
          let inside = good.inside k d lt in
          let holds : PairHolds g u (slice_index_or u.pairs k d).0 (slice_index_or u.pairs k d).1 = good.well.pairs k d lt in
          let not_root : 0 < (slice_index_or u.pairs k d).0.0 = elim (cases_lt 0 (slice_index_or u.pairs k d).0.0) [
            | inl above ↦ above
            | inr zero' ↦ absurd (
                let is : (slice_index_or u.pairs k d).0.0 ≡ 0 = omega (arith, zero') in
                both_ways (has 0 (path_of u.vertices (slice_index_or u.pairs k d).1)) (subst (λ (n : ℕ). has n (path_of u.vertices (slice_index_or u.pairs k d).1) ≡ false) is holds.3)
                (root_above g u.vertices h (length u.vertices) (slice_index_or u.pairs k d).1.0 inside.1 inside.1))
          ] in
          (not_root, inside.0, inside.1);
    }

-- the edges of a path are there
one_there : (g : Flow) (vs : List Vertex) → Rooted g vs → (x : ℕ) (e : EdgeId) → (vertex_at vs x).by ≡ Some e → e.0 < length g.edges
one_there g vs h x e is = elim (cases_lt x (length vs)) [
  | inl lt ↦ elim (cases_lt 0 x) [
    | inl above ↦
        let c : IsChild g vs x = h.others x above lt in
        let same : Some c.edge ≡ Some e = sym c.by ∙ is in
        let q : c.edge ≡ e = cc in
        subst (λ (y : EdgeId). y.0 < length g.edges) q c.there
    | inr zero' ↦ absurd (let z : x ≡ 0 = omega (arith, zero') in let none : None ≡ Some e = sym (ap (λ (k : ℕ). (vertex_at vs k).by) z ∙ h.root.1) ∙ is in cc)
  ]
  | inr le ↦ absurd (let none : None ≡ Some e = sym (ap (λ (y : Vertex). y.by) (get_or-eq_default vs (root_at (record { 0 = 0 })) le)) ∙ is in cc)
]

edges_there : (g : Flow) (vs : List Vertex) → Rooted g vs → (xs : List ℕ) → All (λ e. e.0 < length g.edges) (edges_to vs xs)
edges_there g vs h [] = λ k d lt. absurd (omega (arith, lt))
edges_there g vs h (x ∷ xs) = by (vertex_at vs x).by (λ e is. one_there g vs h x e is) (edges_there g vs h xs)
  where
    by : (o : Option EdgeId) → ((e : EdgeId) → o ≡ Some e → e.0 < length g.edges) → All (λ e. e.0 < length g.edges) (edges_to vs xs) → All (λ e. e.0 < length g.edges) (edge_in o ++ edges_to vs xs)
    by None there rest = rest
    by (Some e) there rest = λ k d lt. elim k as (λ j. j < suc (length (edges_to vs xs)) → (slice_index_or (e ∷ edges_to vs xs) j d).0 < length g.edges) [
      | zero ↦ (λ _. there e refl)
      | suc j ↦ (λ l. rest j d (omega (arith, l)))
    ] lt

pub legal_edges : (g : Flow) (u : Unwound) (path : List ℕ) → Legal g u → All (λ e. e.0 < length g.edges) (edges_to u.vertices path)
legal_edges g u path l = edges_there g u.vertices (rooted_legal g u l) path
