-- An Expand and a Refine of the highest open leaf keep their rules, and vertices their nodes.
use Rattle.std.proofs.Common.{◌≡◌, ◌∙◌, ℕ, ◌+◌, ◌<◌, ◌⊎◌, inl, inr, true, false, List, [], ◌∷◌, ◌++◌, length, zero, suc, refl, sym, ap, subst, arith, nat_eq, reverse, slice_index_or, length-append}
use Rattle.std.proofs.lemmas.Bool.{cases_eq, eqb-true, or_cases, or_left, or_right}
use mathlib.Core.List.{reverse-cons}
use Rattle.bv_term.specs.declared.term.TermId.{TermId}
use Rattle.bv_term.specs.WellFormed.{Table}
use Rattle.bv_term.specs.Laws.{Extends}
use Rattle.c_graph.specs.declared.graph.NodeId.{NodeId}
use Rattle.c_graph.specs.declared.graph.EdgeId.{EdgeId}
use Rattle.c_graph.specs.Shape.{Flow, outs}
use Rattle.reach_tree.specs.declared.vertex.VertexId.{VertexId}
use Rattle.reach_tree.specs.declared.vertex.Vertex.{Vertex}
use Rattle.reach_tree.specs.Trees.{changed, expanded, leaves_of, numbers_from, vertex_at, with_children}
use Rattle.cover_engine.specs.declared.unit.UnitDone.{UnitDone}
use Rattle.cover_engine.specs.declared.unit.UnitDone.TheVariants.{Expand, Refine}
use Rattle.cover_engine.specs.Unwindings.{Unwound, has, is_above, path_of, path_up, vertices_named}
use Rattle.cover_engine.specs.Units.{CanAll, Legal, after, after_all, after_expand, after_refine, refined_along, start}
use Rattle.cover_engine.specs.Caches.{SameShape}
use Rattle.cover_engine.specs.Steering.{IsHighestOpen, Steered}
use Rattle.cover_engine.proofs.Labelling.{refined_nodes, refined_shape}
use Rattle.cover_engine.proofs.Subtrees.{path_none, path_some}
use Rattle.unwinding_laws.specs.Laws.{IsChild, IsTree}
use Rattle.unwinding_laws.proofs.Steering.{growing_tables_keep_steering, one_more_is_steered}
use Rattle.unwinding_laws.proofs.Tables.{Labelled, after_before, before, known_after, known_start, legal_later, open_stays}
use Rattle.unwinding_laws.proofs.Vertices.{changed_length, changed_other, changed_same, vertex_front}
use Rattle.explore.specs.Standing.{SameNodes}
use Rattle.explore.specs.Settling.{NoneBelow}

-- nodes of vertices
pub nodes-same : (vs ws : List Vertex) → ws ≡ vs → SameNodes vs ws
nodes-same vs ws e = record { sized = (let s = ap (λ (xs : List Vertex). length xs) e in omega (arith, s)); nodes = λ k lt. ap (λ (xs : List Vertex). (vertex_at xs k).node.0) e }

pub nodes-refined : (table : Table) (vs : List Vertex) (xs : List ℕ) (fs : List TermId) → SameNodes vs (refined_along table vs xs fs)
nodes-refined table vs xs fs =
    let shape : SameShape vs (refined_along table vs xs fs) = refined_shape table vs xs fs in
    let s = shape.sized in
    record { sized = omega (arith, s); nodes = λ k lt. ap (λ (n : NodeId). n.0) (refined_nodes table vs xs fs k) }

pub nodes-expanded : (g : Flow) (vs : List Vertex) (v : VertexId) → v.0 < length vs → SameNodes vs (expanded g vs v)
nodes-expanded g vs v there = record { sized = omega (arith, many, size); nodes = at }
  where
    es : List EdgeId
    es = outs g (vertex_at vs v.0).node

    cs : List VertexId
    cs = numbers_from (length vs) (length es)

    base : List Vertex
    base = changed vs v.0 (with_children cs)

    size : length base ≡ length vs
    size = changed_length vs v.0 (with_children cs)

    many : length (base ++ leaves_of g.edges v es) ≡ length base + length (leaves_of g.edges v es)
    many = length-append base (leaves_of g.edges v es)

    at : (k : ℕ) → k < length vs → (vertex_at (base ++ leaves_of g.edges v es) k).node.0 ≡ (vertex_at vs k).node.0
    at k lt =
        ap (λ (x : Vertex). x.node.0) (vertex_front base (leaves_of g.edges v es) k (omega (arith, lt, size))) ∙ way (cases_eq k v.0)
      where
        way : (k ≡ v.0) ⊎ (k ≡ v.0 → ⊥) → (vertex_at base k).node.0 ≡ (vertex_at vs k).node.0
        way (inl e) = subst (λ (j : ℕ). (vertex_at base j).node.0 ≡ (vertex_at vs j).node.0) (sym e)
            (ap (λ (x : Vertex). x.node.0) (changed_same vs v.0 (with_children cs) there))
        way (inr ne) = ap (λ (x : Vertex). x.node.0) (changed_other vs v.0 k (with_children cs) ne)

-- the labels of a legal unwinding are of terms of its table
module _ (g : Flow) (old new : Table) (ext : Extends old new) where
  known-all : (u : Unwound) (xs : List UnitDone) → Labelled g old new ext u.vertices → CanAll g (before g old new ext u) xs
      → Labelled g old new ext (after_all g (before g old new ext u) xs).vertices
  known-all u [] k c = k
  known-all u (x ∷ xs) k c =
      let next : Unwound = after g (before g old new ext u) x in
      let alike : next ≡ before g old new ext next = after_before g old new ext u x in
      let rest : CanAll g (before g old new ext next) xs = subst (λ (w : Unwound). CanAll g w xs) alike c.1 in
      subst (λ (w : Unwound). Labelled g old new ext (after_all g w xs).vertices) (sym alike)
      (known-all next xs (known_after g old new ext u x c.0 k) rest)

legal-known : (g : Flow) (u : Unwound) (table : Table) (ext : Extends u.terms table) → Legal g u → Labelled g u.terms table ext u.vertices
legal-known g u table ext l =
    subst (λ (w : Unwound). Labelled g u.terms table ext w.vertices) (sym l.made)
    (known-all g u.terms table ext (start g u.terms) u.journal (known_start g u.terms table ext) l.units)

highest-grown : (g : Flow) (u : Unwound) (table : Table) (v : VertexId) → Extends u.terms table → Legal g u → IsHighestOpen g u v → IsHighestOpen g (record u { terms = table }) v
highest-grown g u table v ext l h =
    let k = legal-known g u table ext l in
    (open_stays g u.terms table ext u v k ∙ h.0, λ w lt there. open_stays g u.terms table ext u w k ∙ h.1 w lt there)

pub expand-steered : (g : Flow) (u : Unwound) (v : VertexId) → Legal g u → Steered g u → IsHighestOpen g u v → NoneBelow u v v.0 → Steered g (after_expand g u v)
expand-steered g u v legal s highest none = one_more_is_steered g u (Expand v) legal s (highest, none)

-- terms that come to the table, and then a Refine
pub grown-steered : (g : Flow) (old new : Unwound) → Extends old.terms new.terms → new ≡ record old { terms = new.terms } → Legal g old → Steered g old → Steered g new
grown-steered g old new ext same legal s = subst (Steered g) (sym same) (growing_tables_keep_steering g old new.terms ext legal s)

pub refine-steered : (g : Flow) (old grown : Unwound) (v : VertexId) (fs : List TermId) → Extends old.terms grown.terms → grown ≡ record old { terms = grown.terms }
    → Legal g old → Steered g old → IsHighestOpen g old v → Steered g (after_refine grown v fs)
refine-steered g old grown v fs ext same legal s highest =
    let wider : Unwound = record old { terms = grown.terms } in
    let ok : Legal g wider = legal_later g old.terms grown.terms ext old refl legal in
    let ss : Steered g wider = growing_tables_keep_steering g old grown.terms ext legal s in
    let hh : IsHighestOpen g wider v = highest-grown g old grown.terms v ext legal highest in
    subst (λ (w : Unwound). Steered g (after_refine w v fs)) (sym same) (one_more_is_steered g wider (Refine v fs) ok ss hh)

-- the path of a vertex
has-cons : (c z : ℕ) (rest : List ℕ) → has c (z ∷ rest) ≡ true → (z ≡ c) ⊎ (has c rest ≡ true)
has-cons c z rest h = elim (or_cases (nat_eq z c) (has c rest) h) [ inl a ↦ inl (eqb-true z c a) | inr b ↦ inr b ]

path-in : (g : Flow) (u : Unwound) → IsTree g u → (n z c : ℕ) → z < length u.vertices → has c (path_up u.vertices n z) ≡ true → c < length u.vertices
path-in g u t zero z c lt h = absurd cc
path-in g u t (suc n) zero c lt h = one (has-cons c 0 [] (subst (λ (xs : List ℕ). has c xs ≡ true) (path_none u.vertices n 0 t.root.0) h))
  where
    one : (0 ≡ c) ⊎ (has c [] ≡ true) → c < length u.vertices
    one (inl e) = omega (arith, e, lt)
    one (inr e) = absurd cc
path-in g u t (suc n) (suc z) c lt h =
    let k : IsChild g u.vertices (suc z) = t.others (suc z) (omega arith) lt in
    let low = k.lower in
    elim (has-cons c (suc z) (path_up u.vertices n k.above.0)
    (subst (λ (xs : List ℕ). has c xs ≡ true) (path_some u.vertices n (suc z) k.above k.parent) h)) [
      | inl e ↦ omega (arith, e, lt)
      | inr e ↦ path-in g u t n k.above.0 c (omega (arith, low, lt)) e
    ]

pub above-there : (g : Flow) (u : Unwound) (v w : VertexId) → IsTree g u → w.0 < length u.vertices → is_above u.vertices v w ≡ true → v.0 < length u.vertices
above-there g u v w t lt h = path-in g u t (length u.vertices) w.0 v.0 lt h

has-append : (c : ℕ) (xs ys : List ℕ) → has c (xs ++ ys) ≡ true → (has c xs ≡ true) ⊎ (has c ys ≡ true)
has-append c [] ys h = inr h
has-append c (x ∷ xs) ys h = elim (has-cons c x (xs ++ ys) h) [
  | inl e ↦ inl (or_left (nat_eq x c) (has c xs) (eq-is x c e))
  | inr r ↦ elim (has-append c xs ys r) [ inl a ↦ inl (or_right (nat_eq x c) (has c xs) a) | inr b ↦ inr b ]
]
  where
    eq-is : (a b : ℕ) → a ≡ b → nat_eq a b ≡ true
    eq-is a b e = grind (arith, e)

has-reverse : (c : ℕ) (xs : List ℕ) → has c (reverse xs) ≡ true → has c xs ≡ true
has-reverse c [] h = h
has-reverse c (x ∷ xs) h = elim (has-append c (reverse xs) (x ∷ []) (subst (λ (ys : List ℕ). has c ys ≡ true) (reverse-cons x xs) h)) [
  | inl a ↦ or_right (nat_eq x c) (has c xs) (has-reverse c xs a)
  | inr b ↦ elim (has-cons c x [] b) [ inl e ↦ or_left (nat_eq x c) (has c xs) (one b) | inr n ↦ absurd cc ]
]
  where
    one : has c (x ∷ []) ≡ true → nat_eq x c ≡ true
    one h = elim (or_cases (nat_eq x c) false h) [ inl a ↦ a | inr b ↦ absurd cc ]

named-on : (xs : List ℕ) (k : ℕ) (d : VertexId) → k < length (vertices_named xs) → has (slice_index_or (vertices_named xs) k d).0 xs ≡ true
named-on [] k d lt = absurd (omega (arith, lt))
named-on (x ∷ xs) zero d lt = or_left (nat_eq x x) (has x xs) (self x)
  where
    self : (a : ℕ) → nat_eq a a ≡ true
    self a = grind arith
named-on (x ∷ xs) (suc k) d lt = or_right (nat_eq x (slice_index_or (vertices_named xs) k d).0) (has (slice_index_or (vertices_named xs) k d).0 xs) (named-on xs k d (omega (arith, lt)))

-- each vertex of the path down to one is above it
pub path-above : (vs : List Vertex) (v : VertexId) (path : List VertexId) (k : ℕ) (d : VertexId) → path ≡ vertices_named (reverse (path_of vs v)) → k < length path
    → is_above vs (slice_index_or path k d) v ≡ true
path-above vs v path k d e lt =
    let xs : List ℕ = reverse (path_of vs v) in
    let less : k < length (vertices_named xs) = subst (λ (ys : List VertexId). k < length ys) e lt in
    subst (λ (ys : List VertexId). is_above vs (slice_index_or ys k d) v ≡ true) (sym e) (has-reverse (slice_index_or (vertices_named xs) k d).0 (path_of vs v) (named-on xs k d less))
