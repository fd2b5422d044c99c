-- A vertex is expanded or refined once at most.
use Rattle.std.proofs.Common.{◌≡◌, ◌∙◌, ℕ, ◌+◌, ◌<◌, ◌≤◌, ◌==◌, ◌&&◌, ◌||◌, ◌⊎◌, inl, inr, Bool, true, false, not, List, [], ◌∷◌, ◌++◌, length, Option, None, Some, reverse, slice_get, zero, suc, refl, sym, ap, subst, arith, nat_eq, if◌then◌else◌}
use Rattle.std.specs.List.{All}
use Rattle.std.proofs.lemmas.Bool.{eqb-true, false_from_ne_true, true_from_ne_false, false≢true, or_cases, or_left, or_right}
use Rattle.std.proofs.lemmas.List.{reverse-append}
use mathlib.Core.List.{reverse-cons}
use Rattle.bv_term.specs.declared.term.TermId.{TermId}
use Rattle.bv_term.specs.declared.term.Term.{Term}
use Rattle.bv_term.specs.declared.term.Term.TheVariants.{Constant}
use Rattle.bv_term.specs.WellFormed.{Table}
use Rattle.c_graph.specs.declared.graph.Node.{Node}
use Rattle.c_graph.specs.declared.graph.NodeId.{NodeId}
use Rattle.c_graph.specs.declared.graph.EdgeId.{EdgeId}
use Rattle.c_graph.specs.declared.graph.Edge.{Edge}
use Rattle.c_graph.specs.Shape.{Flow, GoesOn, IsFlow, has_out, outs, outs_from}
use Rattle.reach_tree.specs.declared.vertex.VertexId.{VertexId}
use Rattle.reach_tree.specs.declared.vertex.Vertex.{Vertex}
use Rattle.reach_tree.specs.Trees.{numbers_from, strengthened, target_of, vertex_at, with_conjunct}
use Rattle.cover_engine.specs.declared.unit.UnitDone.{UnitDone}
use Rattle.cover_engine.specs.declared.unit.UnitDone.TheVariants.{Expand, Refine, CoverYes, CoverNo}
use Rattle.needed_cells.specs.Formulas.{is_bit, is_false_term, is_true_term}
use Rattle.cover_engine.specs.Unwindings.{Unwound, has, is_covered, is_end, is_none, is_open_leaf, path_of, path_up, some_false}
use Rattle.cover_engine.specs.Units.{Can, CanAll, Legal, Links, after, numbers_of, refined_along, start, strengthens}
use Rattle.cover_engine.specs.Settlings.{refines_in}
use Rattle.cover_engine.proofs.Growing.{Grown, grown}
use Rattle.cover_engine.proofs.Labelling.{refined_false, refined_shape}
use Rattle.cover_engine.proofs.UnitLemmas.{legal-after}
use Rattle.unwinding_laws.specs.Laws.{IsTree}
use Rattle.unwinding_laws.proofs.Refining.{refined_length}
use Rattle.unwinding_laws.proofs.Rooting.{legal_tree}
use Rattle.unwinding_laws.proofs.Vertices.{changed_same}
use Rattle.journal_length_laws.specs.Laws.{AreAllPaths}
use Rattle.journal_length_laws.proofs.Counting.{Distinct, In, keys, keys-few}
use Rattle.journal_length_laws.proofs.Trees.{vertices-few}

-- an open leaf has no children and no conjunct false
open-parts : (a b c d : Bool) → (a && (not (b || c) && d)) ≡ true → (a ≡ true) × (b ≡ false)
open-parts true true c d e = absurd (false≢true e)
open-parts true false c d e = (refl, refl)
open-parts false b c d e = absurd (false≢true e)

abbrev Moved : Unwound → ℕ → Type 0
Moved u k = (k < length u.vertices) × ((is_none (vertex_at u.vertices k).children ≡ false) ⊎ (some_false u.terms (vertex_at u.vertices k).label ≡ true))

still : (g : Flow) (u : Unwound) (v : VertexId) → is_open_leaf g u v ≡ true → Moved u v.0 → ⊥
still g u v is-open (lt, m) =
    let p = open-parts (is_none (vertex_at u.vertices v.0).children) (some_false u.terms (vertex_at u.vertices v.0).label)
    (is_end (slice_get g.nodes (vertex_at u.vertices v.0).node.0)) (not (is_covered u v)) is-open in
    elim m [ inl a ↦ false≢true (sym a ∙ p.0) | inr b ↦ false≢true (sym p.1 ∙ b) ]

-- a node from which an edge leads on has edges
outs-some : (n : ℕ) (es : List Edge) (v : NodeId) → has_out es v ≡ true → is_none (outs_from n es v) ≡ false
outs-some n [] v h = absurd (false≢true h)
outs-some n (e ∷ es) v h = by (e.from.0 == v.0) h (outs-some (n + 1) es v)
  where
    by : (b : Bool) → (b || has_out es v) ≡ true → (has_out es v ≡ true → is_none (outs_from (n + 1) es v) ≡ false)
        → is_none (if b then record { 0 = n } ∷ outs_from (n + 1) es v else outs_from (n + 1) es v) ≡ false
    by true h f = refl
    by false h f = f h

numbers-some : (n : ℕ) (es : List EdgeId) → is_none es ≡ false → is_none (numbers_from n (length es)) ≡ false
numbers-some n [] e = absurd (false≢true (sym e))
numbers-some n (x ∷ es) e = refl

goes-target : (nodes : List Node) (all edges : List Edge) (k : ℕ) → All (λ e. GoesOn nodes all e.to) edges → k < length edges → GoesOn nodes all (target_of edges k)
goes-target nodes all [] k h lt = absurd (omega (arith, lt))
goes-target nodes all (e ∷ edges) zero h lt = h 0 e (omega arith)
goes-target nodes all (e ∷ edges) (suc k) h lt = goes-target nodes all edges k (λ j d less. h (suc j) d (omega (arith, less))) (omega (arith, lt))

node-goes : (g : Flow) (u : Unwound) (k : ℕ) → IsFlow g → IsTree g u → k < length u.vertices → GoesOn g.nodes g.edges (vertex_at u.vertices k).node
node-goes g u zero flow t lt = subst (λ (n : NodeId). GoesOn g.nodes g.edges n) (sym t.root.2) flow.entry_goes_on
node-goes g u (suc k) flow t lt =
    let c = t.others (suc k) (omega arith) lt in
    subst (λ (n : NodeId). GoesOn g.nodes g.edges n) (sym c.node) (goes-target g.nodes g.edges g.edges c.edge.0 flow.targets_go_on c.there)

-- the last formula of a path is false
record Last (table : Table) (fs : List TermId) : Type 0 where
  front : List TermId
  last : TermId
  are : fs ≡ front ++ last ∷ []
  is_no : is_false_term table last ≡ true

links-last : (g : Flow) (table : Table) (vs : List Vertex) (ys : List ℕ) (v : ℕ) (fs : List TermId) → Links g table vs (ys ++ v ∷ []) fs → Last table fs
links-last g table vs [] v [] l = absurd l
links-last g table vs [] v (f ∷ []) l = record { front = []; last = f; are = refl; is_no = l }
links-last g table vs [] v (f ∷ h ∷ fs) l = absurd l
links-last g table vs (y ∷ []) v [] l = absurd l
links-last g table vs (y ∷ []) v (f ∷ []) l = absurd l
links-last g table vs (y ∷ []) v (f ∷ h ∷ fs) l =
    let r = links-last g table vs [] v (h ∷ fs) l.1 in
    record { front = f ∷ r.front; last = r.last; are = ap (λ (xs : List TermId). f ∷ xs) r.are; is_no = r.is_no }
links-last g table vs (y ∷ z ∷ ys) v [] l = absurd l
links-last g table vs (y ∷ z ∷ ys) v (f ∷ []) l = absurd l
links-last g table vs (y ∷ z ∷ ys) v (f ∷ h ∷ fs) l =
    let r = links-last g table vs (z ∷ ys) v (h ∷ fs) l.1 in
    record { front = f ∷ r.front; last = r.last; are = ap (λ (xs : List TermId). f ∷ xs) r.are; is_no = r.is_no }

bit-other : (o : Option Term) → is_bit 0 o ≡ true → is_bit 1 o ≡ false
bit-other None e = refl
bit-other (Some (Constant w v)) e = other (w == 1) v e
  where
    other : (a : Bool) (v : ℕ) → (a && (v == 0)) ≡ true → (a && (v == 1)) ≡ false
    other true zero e = refl
    other true (suc v) e = absurd (let z : suc v ≡ 0 = eqb-true (suc v) 0 e in omega (arith, z))
    other false v e = refl
bit-other (Some _) e = refl

has-false : (table : Table) (f : TermId) (ts : List TermId) → is_false_term table f ≡ true → has f.0 (numbers_of ts) ≡ true → some_false table ts ≡ true
has-false table f [] off h = absurd (false≢true h)
has-false table f (t ∷ ts) off h = elim (or_cases (nat_eq t.0 f.0) (has f.0 (numbers_of ts)) h) [
  | inl a ↦
      let e : t.0 ≡ f.0 = eqb-true t.0 f.0 a in
      or_left (is_false_term table t) (some_false table ts) (subst (λ (n : ℕ). is_bit 0 (slice_get table.terms n) ≡ true) (sym e) off)
  | inr b ↦ or_right (is_false_term table t) (some_false table ts) (has-false table f ts off b)
]

false-last : (table : Table) (f : TermId) (ts : List TermId) → is_false_term table f ≡ true → some_false table (ts ++ f ∷ []) ≡ true
false-last table f [] off = or_left (is_false_term table f) false off
false-last table f (t ∷ ts) off = or_right (is_false_term table t) (some_false table (ts ++ f ∷ [])) (false-last table f ts off)

path-head : (vs : List Vertex) (n v : ℕ) → 0 < n → (up : List ℕ) × (path_up vs n v ≡ v ∷ up)
path-head vs zero v pos = absurd (omega (arith, pos))
path-head vs (suc n) v pos = (elim (vertex_at vs v).parent [ None ↦ [] | Some p ↦ path_up vs n p.0 ], refl)

both-not : (a b : Bool) → a ≡ false → b ≡ false → (not a && not b) ≡ true
both-not true b p q = absurd (false≢true (sym p))
both-not false true p q = absurd (false≢true (sym q))
both-not false false p q = refl

-- a leaf that was refined has the conjunct false
abbrev first-of : Table → List Vertex → ℕ → TermId → List Vertex
first-of table vs v f = if strengthens table vs v f then strengthened vs (record { 0 = v }) f else vs

closed-here : (table : Table) (vs : List Vertex) (v : ℕ) (f : TermId) → v < length vs → is_false_term table f ≡ true
    → some_false table (vertex_at vs v).label ≡ false → some_false table (vertex_at (first-of table vs v f) v).label ≡ true
closed-here table vs v f lt off none =
    let adds : strengthens table vs v f ≡ true =
    both-not (is_true_term table f) (has f.0 (numbers_of (vertex_at vs v).label)) (bit-other (slice_get table.terms f.0) off)
    (false_from_ne_true (has f.0 (numbers_of (vertex_at vs v).label)) (λ h. false≢true (sym none ∙ has-false table f (vertex_at vs v).label off h))) in
    ap (λ (b : Bool). some_false table (vertex_at (if b then strengthened vs (record { 0 = v }) f else vs) v).label) adds
    ∙ ap (λ (x : Vertex). some_false table x.label) (changed_same vs v (with_conjunct f) lt) ∙ false-last table f (vertex_at vs v).label off

closed-first : (table : Table) (vs : List Vertex) (v : ℕ) (up : List ℕ) (f : TermId) (fs : List TermId) → v < length vs → is_false_term table f ≡ true
    → some_false table (vertex_at vs v).label ≡ false → some_false table (vertex_at (refined_along table vs (v ∷ up) (f ∷ fs)) v).label ≡ true
closed-first table vs v up f fs lt off none =
    true_from_ne_false (some_false table (vertex_at (refined_along table vs (v ∷ up) (f ∷ fs)) v).label)
    (λ e. false≢true (sym (refined_false table (first-of table vs v f) up fs v e) ∙ closed-here table vs v f lt off none))

refined-closed : (g : Flow) (table : Table) (vs : List Vertex) (v : VertexId) (fs : List TermId) → v.0 < length vs → Links g table vs (reverse (path_of vs v)) fs
    → some_false table (vertex_at vs v.0).label ≡ false → some_false table (vertex_at (refined_along table vs (path_of vs v) (reverse fs)) v.0).label ≡ true
refined-closed g table vs v fs lt links none =
    let (up, head) = path-head vs (length vs) v.0 (omega (arith, lt)) in
    let down : reverse (path_of vs v) ≡ reverse up ++ v.0 ∷ [] = ap reverse head ∙ reverse-cons v.0 up in
    let r = links-last g table vs (reverse up) v.0 fs (subst (λ (xs : List ℕ). Links g table vs xs fs) down links) in
    let back : reverse fs ≡ r.last ∷ reverse r.front = ap reverse r.are ∙ reverse-append r.front (r.last ∷ []) in
    subst (λ (xs : List ℕ). some_false table (vertex_at (refined_along table vs xs (reverse fs)) v.0).label ≡ true) (sym head)
    (subst (λ (hs : List TermId). some_false table (vertex_at (refined_along table vs (v.0 ∷ up) hs) v.0).label ≡ true) (sym back)
    (closed-first table vs v.0 up r.last (reverse r.front) lt r.is_no none))

-- the vertex that a unit expands or refines
abbrev pub moves : Unwound → UnitDone → List ℕ
moves u (Expand v) = v.0 ∷ []
moves u (Refine v fs) = v.0 ∷ []
moves u (CoverYes v w) = []
moves u (CoverNo v w store) = []

single : (u : Unwound) (x : UnitDone) → Distinct (moves u x)
single u (Expand v) = (λ h. h, tt)
single u (Refine v fs) = (λ h. h, tt)
single u (CoverYes v w) = tt
single u (CoverNo v w store) = tt

pub legal-start : (g : Flow) (u : Unwound) → Legal g u → Legal g (start g u.terms)
legal-start g u l = record { cells = l.cells; units = tt; made = refl }

pub legal-next : (g : Flow) (u : Unwound) (x : UnitDone) → Legal g u → Can g u x → Legal g (after g u x)
legal-next g u x l c = legal-after g u (after g u x) x l c refl

at-key : (u : Unwound) (v k : ℕ) → v ≡ k → Moved u k → Moved u v
at-key u v k e m = subst (Moved u) (sym e) m

fresh : (g : Flow) (u : Unwound) (x : UnitDone) (k : ℕ) → Legal g u → Can g u x → In (moves u x) k → Moved u k → ⊥
fresh g u (Expand v) k l c (inl e) m = still g u v c.leaf (at-key u v.0 k e m)
fresh g u (Expand v) k l c (inr h) m = absurd h
fresh g u (Refine v fs) k l c (inl e) m = still g u v c.leaf (at-key u v.0 k e m)
fresh g u (Refine v fs) k l c (inr h) m = absurd h
fresh g u (CoverYes v w) k l c h m = absurd h
fresh g u (CoverNo v w store) k l c h m = absurd h

done-expand : (g : Flow) (u : Unwound) (v : VertexId) → IsFlow g → Legal g u → Can g u (Expand v) → Moved (after g u (Expand v)) v.0
done-expand g u v flow l c =
    let es : List EdgeId = outs g (vertex_at u.vertices v.0).node in
    let h : Grown u.vertices (after g u (Expand v)).vertices v (length es) = grown g u.vertices v c.vertex in
    let sized = h.sized in
    let there = c.vertex in
    let some : is_none es ≡ false = outs-some 0 g.edges (vertex_at u.vertices v.0).node (node-goes g u v.0 flow (legal_tree g u l) c.vertex c.node) in
    (omega (arith, sized, there), inl (ap is_none h.this ∙ numbers-some (length u.vertices) es some))

done-refine : (g : Flow) (u : Unwound) (v : VertexId) (fs : List TermId) → Can g u (Refine v fs) → Moved (after g u (Refine v fs)) v.0
done-refine g u v fs c =
    let p = open-parts (is_none (vertex_at u.vertices v.0).children) (some_false u.terms (vertex_at u.vertices v.0).label)
    (is_end (slice_get g.nodes (vertex_at u.vertices v.0).node.0)) (not (is_covered u v)) c.leaf in
    let sized = refined_length u.terms u.vertices (path_of u.vertices v) (reverse fs) in
    let there = c.vertex in
    (omega (arith, sized, there), inr (refined-closed g u.terms u.vertices v fs c.vertex c.links p.1))

done : (g : Flow) (u : Unwound) (x : UnitDone) (k : ℕ) → IsFlow g → Legal g u → Can g u x → In (moves u x) k → Moved (after g u x) k
done g u (Expand v) k flow l c (inl e) = subst (Moved (after g u (Expand v))) e (done-expand g u v flow l c)
done g u (Expand v) k flow l c (inr h) = absurd h
done g u (Refine v fs) k flow l c (inl e) = subst (Moved (after g u (Refine v fs))) e (done-refine g u v fs c)
done g u (Refine v fs) k flow l c (inr h) = absurd h
done g u (CoverYes v w) k flow l c h = absurd h
done g u (CoverNo v w store) k flow l c h = absurd h

stays : (g : Flow) (u : Unwound) (x : UnitDone) (k : ℕ) → Can g u x → Moved u k → Moved (after g u x) k
stays g u (Expand v) k c (lt, m) =
    let h : Grown u.vertices (after g u (Expand v)).vertices v (length (outs g (vertex_at u.vertices v.0).node)) = grown g u.vertices v c.vertex in
    let sized = h.sized in
    let apart : k ≡ v.0 → ⊥ = λ e. still g u v c.leaf (at-key u v.0 k (sym e) (lt, m)) in (
      omega (arith, sized, lt),
      elim m [
        | inl a ↦ inl (ap is_none (h.other k lt apart) ∙ a)
        | inr b ↦ inr (ap (some_false u.terms) (h.label k lt) ∙ b)
      ],
    )
stays g u (Refine v fs) k c (lt, m) =
    let shape = refined_shape u.terms u.vertices (path_of u.vertices v) (reverse fs) in
    let sized = shape.sized in (
      omega (arith, sized, lt),
      elim m [
        | inl a ↦ inl (ap is_none (shape.children k) ∙ a)
        | inr b ↦ inr (true_from_ne_false _ (λ e. false≢true (sym (refined_false u.terms u.vertices (path_of u.vertices v) (reverse fs) k e) ∙ b)))
      ],
    )
stays g u (CoverYes v w) k c m = m
stays g u (CoverNo v w store) k c m = m

low : (g : Flow) (paths : List (List EdgeId)) → AreAllPaths g paths → (u : Unwound) (x : UnitDone) (k : ℕ) → Legal g u → Can g u x → In (moves u x) k → k < length paths
low g paths all u (Expand v) k l c (inl e) = let few = vertices-few g u l paths all in let lt = c.vertex in omega (arith, few, lt, e)
low g paths all u (Expand v) k l c (inr h) = absurd h
low g paths all u (Refine v fs) k l c (inl e) = let few = vertices-few g u l paths all in let lt = c.vertex in omega (arith, few, lt, e)
low g paths all u (Refine v fs) k l c (inr h) = absurd h
low g paths all u (CoverYes v w) k l c h = absurd h
low g paths all u (CoverNo v w store) k l c h = absurd h

pub moves-few : (g : Flow) (paths : List (List EdgeId)) → IsFlow g → AreAllPaths g paths → (u : Unwound) (xs : List UnitDone) → Legal g u → CanAll g u xs
    → length (keys g moves u xs) ≤ length paths
moves-few g paths flow all u xs l c =
    keys-few g moves (Legal g) Moved (legal-next g) (fresh g) (λ v x k i d h. done g v x k flow i d h) (λ v x k i d m. stays g v x k d m) single (length paths) (low g paths all) u xs l c

refines-moves : (g : Flow) (u : Unwound) (xs : List UnitDone) → refines_in xs ≤ length (keys g moves u xs)
refines-moves g u [] = omega arith
refines-moves g u (Expand v ∷ xs) = let r = refines-moves g (after g u (Expand v)) xs in omega (arith, r)
refines-moves g u (Refine v fs ∷ xs) = let r = refines-moves g (after g u (Refine v fs)) xs in omega (arith, r)
refines-moves g u (CoverYes v w ∷ xs) = refines-moves g (after g u (CoverYes v w)) xs
refines-moves g u (CoverNo v w store ∷ xs) = refines-moves g (after g u (CoverNo v w store)) xs

-- a legal unwinding has few Refines
pub refines-few : (g : Flow) (paths : List (List EdgeId)) → IsFlow g → AreAllPaths g paths → (u : Unwound) → Legal g u → refines_in u.journal ≤ length paths
refines-few g paths flow all u l =
    let few = moves-few g paths flow all (start g u.terms) u.journal (legal-start g u l) l.units in
    let r = refines-moves g (start g u.terms) u.journal in
    omega (arith, few, r)
