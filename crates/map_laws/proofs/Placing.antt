-- Where the vertices of a legal unwinding stand: each at the node to which its edge leads, the root at the entry.
use Rattle.std.proofs.Common.{◌≡◌, ℕ, ◌+◌, ◌-◌, ◌<◌, ◌≤◌, Bool, true, false, List, [], ◌∷◌, ◌++◌, length, refl, sym, ap, ◌∙◌, subst, arith, zero, suc, inl, inr, Some, None, reverse, if◌then◌else◌, length-append}
use Rattle.std.proofs.lemmas.List.{length-set, set_past, get_or-set_same, get_or-set_other, get_or_append_left, get_or-append-add}
use Rattle.std.proofs.lemmas.Bool.{cases_eq, cases_lt}
use Rattle.bv_term.specs.declared.term.TermId.{TermId}
use Rattle.bv_term.specs.WellFormed.{Table}
use Rattle.c_graph.specs.declared.graph.EdgeId.{EdgeId}
use Rattle.c_graph.specs.declared.graph.Edge.{Edge}
use Rattle.c_graph.specs.Shape.{Flow, outs}
use Rattle.reach_tree.specs.declared.vertex.VertexId.{VertexId}
use Rattle.reach_tree.specs.declared.vertex.Vertex.{Vertex}
use Rattle.reach_tree.specs.Trees.{vertex_at, with_conjunct, with_children, strengthened, changed, leaves_of, numbers_from, root_at, target_of}
use Rattle.cover_engine.specs.declared.unit.UnitDone.{UnitDone}
use Rattle.cover_engine.specs.declared.unit.UnitDone.TheVariants.{Expand, Refine, CoverYes, CoverNo}
use Rattle.cover_engine.specs.Unwindings.{Unwound, path_of}
use Rattle.cover_engine.specs.Units.{after, after_all, start, Legal, refined_along, strengthens}

-- a vertex that an edge leads to stands where the edge does, and one without a parent is the root
pub record Stands (g : Flow) (vs : List Vertex) : Type 0 where
  pub some : 0 < length vs
  pub root : (vertex_at vs 0).node ≡ g.entry
  pub by : (k : ℕ) (e : EdgeId) → (vertex_at vs k).by ≡ Some e → (vertex_at vs k).node ≡ target_of g.edges e.0
  pub top : (k : ℕ) → k < length vs → (vertex_at vs k).parent ≡ None → k ≡ 0

nobody : Vertex
nobody = root_at (record { 0 = 0 })

-- vertices alike but for labels, versions and children
record Alike (vs ws : List Vertex) : Type 0 where
  size : length ws ≡ length vs
  by : (k : ℕ) → (vertex_at ws k).by ≡ (vertex_at vs k).by
  node : (k : ℕ) → (vertex_at ws k).node ≡ (vertex_at vs k).node
  parent : (k : ℕ) → (vertex_at ws k).parent ≡ (vertex_at vs k).parent

alike_none : (vs : List Vertex) → Alike vs vs
alike_none vs = record { size = refl; by = λ k. refl; node = λ k. refl; parent = λ k. refl }

alike_twice : (a b c : List Vertex) → Alike a b → Alike b c → Alike a c
alike_twice a b c g h = record { size = h.size ∙ g.size; by = λ k. h.by k ∙ g.by k; node = λ k. h.node k ∙ g.node k; parent = λ k. h.parent k ∙ g.parent k }

stands_alike : (g : Flow) (vs ws : List Vertex) → Alike vs ws → Stands g vs → Stands g ws
stands_alike g vs ws a s = record {
  some = omega (arith, s.some, a.size);
  root = a.node 0 ∙ s.root;
  by = λ k e is. a.node k ∙ s.by k e (sym (a.by k) ∙ is);
  top = λ k lt is. s.top k (omega (arith, lt, a.size)) (sym (a.parent k) ∙ is);
}

part : {A : Type 0} (p : Vertex → A) (vs : List Vertex) (x : ℕ) (f : Vertex → Vertex) → ((y : Vertex) → p (f y) ≡ p y) → (k : ℕ) → p (vertex_at (changed vs x f) k) ≡ p (vertex_at vs k)
part p vs x f h k = elim (cases_eq k x) [
  | inl e ↦ elim (cases_lt x (length vs)) [
    | inl a ↦ subst (λ (i : ℕ). p (vertex_at (changed vs x f) i) ≡ p (vertex_at vs i)) (sym e) (ap p (get_or-set_same vs x (f (vertex_at vs x)) (root_at (record { 0 = 0 })) a) ∙ h (vertex_at vs x))
    | inr b ↦ ap (λ (w : List Vertex). p (vertex_at w k)) (set_past vs x (f (vertex_at vs x)) b)
  ]
  | inr ne ↦ ap p (get_or-set_other vs x k (f (vertex_at vs x)) (root_at (record { 0 = 0 })) ne)
]

alike_changed : (vs : List Vertex) (x : ℕ) (f : Vertex → Vertex) → ((y : Vertex) → (f y).by ≡ y.by) → ((y : Vertex) → (f y).node ≡ y.node) → ((y : Vertex) → (f y).parent ≡ y.parent) → Alike vs (changed vs x f)
alike_changed vs x f b n p = record {
  size = length-set vs x (f (vertex_at vs x));
  by = part (λ (y : Vertex). y.by) vs x f b;
  node = part (λ (y : Vertex). y.node) vs x f n;
  parent = part (λ (y : Vertex). y.parent) vs x f p;
}

alike_one : (vs : List Vertex) (x : ℕ) (f : TermId) (s : Bool) → Alike vs (if s then strengthened vs (record { 0 = x }) f else vs)
alike_one vs x f false = alike_none vs
alike_one vs x f true = alike_changed vs x (with_conjunct f) (λ y. refl) (λ y. refl) (λ y. refl)

alike_refined : (table : Table) (vs : List Vertex) (xs : List ℕ) (fs : List TermId) → Alike vs (refined_along table vs xs fs)
alike_refined table vs [] fs = alike_none vs
alike_refined table vs (x ∷ xs) [] = alike_none vs
alike_refined table vs (x ∷ xs) (h ∷ fs) =
    let w = if strengthens table vs x h then strengthened vs (record { 0 = x }) h else vs in
    alike_twice vs w (refined_along table w xs fs) (alike_one vs x h (strengthens table vs x h)) (alike_refined table w xs fs)

-- new leaves
leaf_by : (edges : List Edge) (v : VertexId) (es : List EdgeId) (k : ℕ) (e : EdgeId) → (vertex_at (leaves_of edges v es) k).by ≡ Some e → (vertex_at (leaves_of edges v es) k).node ≡ target_of edges e.0
leaf_by edges v [] k e is = absurd cc
leaf_by edges v (x ∷ es) zero e is = let q : x ≡ e = cc in ap (λ (y : EdgeId). target_of edges y.0) q
leaf_by edges v (x ∷ es) (suc k) e is = leaf_by edges v es k e is

leaf_parent : (edges : List Edge) (v : VertexId) (es : List EdgeId) (k : ℕ) → k < length (leaves_of edges v es) → (vertex_at (leaves_of edges v es) k).parent ≡ None → ⊥
leaf_parent edges v [] k lt is = omega (arith, lt)
leaf_parent edges v (x ∷ es) zero lt is = cc
leaf_parent edges v (x ∷ es) (suc k) lt is = leaf_parent edges v es k (omega (arith, lt)) is

stands_more : (g : Flow) (vs : List Vertex) (v : VertexId) (es : List EdgeId) → Stands g vs → Stands g (vs ++ leaves_of g.edges v es)
stands_more g vs v es s = record {
  some = omega (arith, s.some, length-append vs (leaves_of g.edges v es));
  root = ap (λ (y : Vertex). y.node) (front 0 s.some) ∙ s.root;
  by = λ k e is. elim (cases_lt k (length vs)) [
    | inl lt ↦ ap (λ (y : Vertex). y.node) (front k lt) ∙ s.by k e (sym (ap (λ (y : Vertex). y.by) (front k lt)) ∙ is)
    | inr le ↦
        let j : ℕ = k - length vs in
        let at = back k le in
        ap (λ (y : Vertex). y.node) at ∙ leaf_by g.edges v es j e (sym (ap (λ (y : Vertex). y.by) at) ∙ is)
  ];
  top = λ k lt is. elim (cases_lt k (length vs)) [
    | inl less ↦ s.top k less (sym (ap (λ (y : Vertex). y.parent) (front k less)) ∙ is)
    | inr le ↦ absurd (leaf_parent g.edges v es (k - length vs) (omega (arith, lt, le, length-append vs (leaves_of g.edges v es))) (sym (ap (λ (y : Vertex). y.parent) (back k le)) ∙ is))
  ];
}
  where
    front : (k : ℕ) → k < length vs → vertex_at (vs ++ leaves_of g.edges v es) k ≡ vertex_at vs k
    front k lt = get_or_append_left vs (leaves_of g.edges v es) (root_at (record { 0 = 0 })) k lt

    back : (k : ℕ) → length vs ≤ k → vertex_at (vs ++ leaves_of g.edges v es) k ≡ vertex_at (leaves_of g.edges v es) (k - length vs)
    back k le =
        let e : length vs + (k - length vs) ≡ k = omega (arith, le) in
        subst (λ (i : ℕ). vertex_at (vs ++ leaves_of g.edges v es) i ≡ vertex_at (leaves_of g.edges v es) (k - length vs)) e (get_or-append-add vs (leaves_of g.edges v es) (k - length vs) (root_at (record { 0 = 0 })))

stands_unit : (g : Flow) (u : Unwound) (x : UnitDone) → Stands g u.vertices → Stands g (after g u x).vertices
stands_unit g u (Expand v) s =
    let es = outs g (vertex_at u.vertices v.0).node in
    let cs = numbers_from (length u.vertices) (length es) in
    stands_more g (changed u.vertices v.0 (with_children cs)) v es
    (stands_alike g u.vertices (changed u.vertices v.0 (with_children cs)) (alike_changed u.vertices v.0 (with_children cs) (λ y. refl) (λ y. refl) (λ y. refl)) s)
stands_unit g u (Refine v fs) s = stands_alike g u.vertices (refined_along u.terms u.vertices (path_of u.vertices v) (reverse fs)) (alike_refined u.terms u.vertices (path_of u.vertices v) (reverse fs)) s
stands_unit g u (CoverYes v w) s = s
stands_unit g u (CoverNo v w store) s = s

stands_all : (g : Flow) (u : Unwound) (xs : List UnitDone) → Stands g u.vertices → Stands g (after_all g u xs).vertices
stands_all g u [] s = s
stands_all g u (x ∷ xs) s = stands_all g (after g u x) xs (stands_unit g u x s)

stands_start : (g : Flow) → Stands g (root_at g.entry ∷ [])
stands_start g = record {
  some = omega arith;
  root = refl;
  by = by_none;
  top = λ k lt is. omega (arith, lt);
}
  where
    by_none : (k : ℕ) (e : EdgeId) → (vertex_at (root_at g.entry ∷ []) k).by ≡ Some e → (vertex_at (root_at g.entry ∷ []) k).node ≡ target_of g.edges e.0
    by_none zero e is = absurd cc
    by_none (suc k) e is = absurd cc

pub stands : (g : Flow) (u : Unwound) → Legal g u → Stands g u.vertices
stands g u l = subst (λ (w : Unwound). Stands g w.vertices) (sym l.made) (stands_all g (start g u.terms) u.journal (stands_start g))
