-- Labels whose conjuncts are terms of width 1.
use Rattle.std.proofs.Common.{◌≡◌, ℕ, ◌+◌, ◌<◌, ◌≤◌, length, List, [], ◌∷◌, ◌++◌, arith, ap, sym, ◌∙◌, refl, suc, zero, subst, slice_index_or, slice_set, slice_index, All, Option, Some, None, Result, Ok, Err, inl, inr, length-append}
use Rattle.std.specs.Prelude.{IfOk, OnErr}
use Rattle.std.proofs.lemmas.List.{append-nil}
use Rattle.std.proofs.lemmas.List.Elements.{All-nil, All-cons, All-append, All-weaker}
use Rattle.bv_term.specs.declared.term.TermId.{TermId}
use Rattle.bv_term.specs.declared.term.Term.{Term}
use Rattle.bv_term.specs.WellFormed.{Table}
use Rattle.bv_term.specs.Laws.{IsPut, Extends}
use Rattle.bv_term.proofs.Staying.{widths_stay}
use Rattle.c_graph.specs.declared.graph.NodeId.{NodeId}
use Rattle.c_graph.specs.declared.graph.EdgeId.{EdgeId}
use Rattle.c_graph.specs.declared.graph.Edge.{Edge}
use Rattle.c_graph.specs.Shape.{Flow, HasWidth, outs}
use Rattle.reach_tree.specs.declared.vertex.VertexId.{VertexId}
use Rattle.reach_tree.specs.declared.vertex.Vertex.{Vertex}
use Rattle.reach_tree.specs.declared.vertex.NewLabel.{NewLabel}
use Rattle.reach_tree.specs.Trees.{AreLabelled, IsLabel, vertex_at, changed, expanded, leaves_of, numbers_from, relabelled, root_at, strengthened, with_children}

-- the vertex of a number is another one
labels-set : (P : List TermId → Type 0) (vs : List Vertex) (k : ℕ) (z : Vertex) → P z.label → ((j : ℕ) → P (vertex_at vs j).label) → (j : ℕ) → P (vertex_at (slice_set vs k z) j).label
labels-set P [] k z pz all j = all j
labels-set P (x ∷ vs) zero z pz all zero = pz
labels-set P (x ∷ vs) zero z pz all (suc j) = all (suc j)
labels-set P (x ∷ vs) (suc k) z pz all zero = all zero
labels-set P (x ∷ vs) (suc k) z pz all (suc j) = labels-set P vs k z pz (λ i. all (suc i)) j

labels-append : (P : List TermId → Type 0) (vs ws : List Vertex) → ((j : ℕ) → P (vertex_at vs j).label) → ((j : ℕ) → P (vertex_at ws j).label) → (j : ℕ) → P (vertex_at (vs ++ ws) j).label
labels-append P [] ws all more j = more j
labels-append P (x ∷ vs) ws all more zero = all zero
labels-append P (x ∷ vs) ws all more (suc j) = labels-append P vs ws (λ i. all (suc i)) more j

labels-leaves : (P : List TermId → Type 0) → P [] → (edges : List Edge) (v : VertexId) (es : List EdgeId) (j : ℕ) → P (vertex_at (leaves_of edges v es) j).label
labels-leaves P none edges v [] j = none
labels-leaves P none edges v (e ∷ es) zero = none
labels-leaves P none edges v (e ∷ es) (suc j) = labels-leaves P none edges v es j

no_label : (table : Table) → IsLabel table []
no_label table = All-nil (λ (t : TermId). HasWidth table t 1)

pub labels_root : (table : Table) (n : NodeId) → AreLabelled table (root_at n ∷ [])
labels_root table n zero = no_label table
labels_root table n (suc j) = no_label table

pub labels_expanded : (table : Table) (g : Flow) (vs : List Vertex) (v : VertexId) → AreLabelled table vs → AreLabelled table (expanded g vs v)
labels_expanded table g vs v all =
    labels-append (IsLabel table) _ _
    (labels-set (IsLabel table) vs v.0 (with_children (numbers_from (length vs) (length (outs g (vertex_at vs v.0).node))) (vertex_at vs v.0)) (all v.0) all)
    (labels-leaves (IsLabel table) (no_label table) g.edges v (outs g (vertex_at vs v.0).node))

pub labels_strengthened : (table : Table) (vs : List Vertex) (v : VertexId) (t : TermId) → AreLabelled table vs → HasWidth table t 1 → AreLabelled table (strengthened vs v t)
labels_strengthened table vs v t all h =
    labels-set (IsLabel table) vs v.0 _ (All-append (λ (x : TermId). HasWidth table x 1) (vertex_at vs v.0).label (t ∷ []) (all v.0) (All-cons (λ (x : TermId). HasWidth table x 1) t [] h (no_label table))) all

pub labels_relabelled : (table : Table) (ls : List NewLabel) (vs : List Vertex) → AreLabelled table vs → All (λ l. IsLabel table l.label) ls → AreLabelled table (relabelled vs ls)
labels_relabelled table [] vs all h = all
labels_relabelled table (l ∷ ls) vs all h =
    labels_relabelled table ls _ (labels-set (IsLabel table) vs l.vertex.0 _ (h 0 l (omega arith)) all) (λ k d lt. h (suc k) d (omega (arith, lt)))

-- labels stay as the table grows
pub label_stays : (old new : Table) (label : List TermId) → Extends old new → IsLabel old label → IsLabel new label
label_stays old new label g h k d lt =
    let p = h k d lt in
    (omega (arith, p.0, ap length g.1.1, length-append old.terms g.1.0), widths_stay old new (slice_index_or label k d) g p.0 ∙ p.1)

pub labels_stay : (old new : Table) (vs : List Vertex) → Extends old new → AreLabelled old vs → AreLabelled new vs
labels_stay old new vs g all j = label_stays old new (vertex_at vs j).label g (all j)

put_extends : {E : Type 0} (r : Result TermId E) (a b : Table) (t : Term) → IfOk r (λ id. IsPut a b t) → OnErr r (b ≡ a) → Extends a b
put_extends (Ok x) a b t p q = elim p [
  | inl e ↦ subst (λ (c : Table). Extends a c) (sym e) (refl, ([], sym (append-nil a.terms)))
  | inr e ↦ subst (λ (c : Table). Extends a c) (sym e.0) (refl, (t ∷ [], refl))
]
put_extends (Err x) a b t p q = subst (λ (c : Table). Extends a c) (sym q) (refl, ([], sym (append-nil a.terms)))

pub labels_put : {E : Type 0} (r : Result TermId E) (old new : Table) (t : Term) (vs : List Vertex) → IfOk r (λ id. IsPut old new t) → OnErr r (new ≡ old) → AreLabelled old vs → AreLabelled new vs
labels_put {E = E} r old new t vs p q all = labels_stay old new vs (put_extends {E = E} r old new t p q) all

-- the same list of vertices by another name
pub labels_are : (table : Table) (vs ws : List Vertex) → ws ≡ vs → AreLabelled table vs → AreLabelled table ws
labels_are table vs ws e all = subst (λ (x : List Vertex). AreLabelled table x) (sym e) all
