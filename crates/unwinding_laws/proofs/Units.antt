-- Each legal unit keeps an unwinding well labelled.
use Rattle.std.proofs.Common.{◌≡◌, ℕ, ◌<◌, Bool, true, false, not, ◌&&◌, ◌||◌, List, [], ◌∷◌, ◌++◌, length, Option, Some, None, ◌⊎◌, inl, inr, refl, sym, ap, ◌∙◌, subst, arith, zero, suc, nat_eq, if◌then◌else◌, slice_index_or}
use Rattle.std.specs.List.{All}
use Rattle.std.proofs.lemmas.Bool.{eqb-true, eq-eqb, cases_Bool, and_parts, or_cases, or_left, or_right}
use Rattle.std.proofs.lemmas.List.Elements.{All-push}
use Rattle.bv_term.specs.declared.term.TermId.{TermId}
use Rattle.bv_term.specs.WellFormed.{Table}
use Rattle.bv_term.specs.Values.{Holds}
use Rattle.c_graph.specs.declared.graph.NodeId.{NodeId}
use Rattle.c_graph.specs.declared.graph.EdgeId.{EdgeId}
use Rattle.c_graph.specs.Shape.{Flow}
use Rattle.reach_tree.specs.declared.vertex.VertexId.{VertexId}
use Rattle.reach_tree.specs.declared.vertex.Vertex.{Vertex}
use Rattle.reach_tree.specs.Trees.{vertex_at, with_conjunct}
use Rattle.needed_cells.specs.Formulas.{is_true_term}
use Rattle.cover_engine.specs.Unwindings.{Unwound, Pair, any_of, has, same, path_of, is_above, is_left, is_covered, may_pair}
use Rattle.cover_engine.specs.Units.{Meets, CanCover, after_cover, after_part, pairs_but_onto, pairs_but_under, numbers_of}
use Rattle.cover_engine.specs.WellLabelled.{LedBy, PairHolds, WellLabelled}
use Rattle.unwinding_laws.proofs.Vertices.{meets_more, meets_front, meets_last, meets_has, true_holds}
use Rattle.unwinding_laws.proofs.Paths.{Family, path_is, path_runs, path_moves}
use Rattle.unwinding_laws.proofs.Refining.{adds, shown}

-- what is kept from unit to unit
pub record Good (g : Flow) (u : Unwound) : Type 0 where
  pub family : Family u.vertices
  pub root : (vertex_at u.vertices 0).label ≡ []
  pub inside : All (λ p. (p.0.0 < length u.vertices) × (p.1.0 < length u.vertices)) u.pairs
  pub well : WellLabelled g u

-- Labels that grew.

-- a vertex with a further formula still meets what it met, and meets the formula
pub shown_meets : (table : Table) (store : List ℕ) (x : Vertex) (o : Option TermId) → Meets table store (shown table x o).label → Meets table store x.label
shown_meets table store x None m = m
shown_meets table store x (Some f) m = grown (adds table x f) m
  where
    grown : (b : Bool) → Meets table store (if b then with_conjunct f x else x).label → Meets table store x.label
    grown true m = meets_front table store x.label f m
    grown false m = m

pub shown_formula : (table : Table) (store : List ℕ) (x : Vertex) (f : TermId) → Meets table store (shown table x (Some f)).label → Holds table store f
shown_formula table store x f m = elim (cases_Bool (adds table x f)) [
  | inl y ↦ let n : Meets table store (x.label ++ f ∷ []) = rw y at m in meets_last table store x.label f n
  | inr no' ↦
      let n : Meets table store x.label = rw no' at m in
      elim (cases_Bool (is_true_term table f)) [
        | inl t ↦ true_holds table store f t
        | inr t ↦ meets_has table store x.label f (there (is_true_term table f) (has f.0 (numbers_of x.label)) t no') n
      ]
]
  where
    there : (a b : Bool) → a ≡ false → not a && not b ≡ false → b ≡ true
    there true b t e = absurd cc
    there false true t e = refl
    there false false t e = absurd cc

-- what meets a label and the formula meets the grown label
pub shown_met : (table : Table) (store : List ℕ) (x : Vertex) (o : Option TermId) → Meets table store x.label → ((f : TermId) → o ≡ Some f → Holds table store f) → Meets table store (shown table x o).label
shown_met table store x None m h = m
shown_met table store x (Some f) m h = grown (adds table x f)
  where
    grown : (b : Bool) → Meets table store (if b then with_conjunct f x else x).label
    grown true = meets_more table store x.label f m (h f refl)
    grown false = m

pub shown_parent : (table : Table) (x : Vertex) (o : Option TermId) → (shown table x o).parent ≡ x.parent
shown_parent table x None = refl
shown_parent table x (Some f) = elim (adds table x f) as (λ (b : Bool). (if b then with_conjunct f x else x).parent ≡ x.parent) [ true ↦ refl | false ↦ refl ]

pub shown_by : (table : Table) (x : Vertex) (o : Option TermId) → (shown table x o).by ≡ x.by
shown_by table x None = refl
shown_by table x (Some f) = elim (adds table x f) as (λ (b : Bool). (if b then with_conjunct f x else x).by ≡ x.by) [ true ↦ refl | false ↦ refl ]

pub shown_node : (table : Table) (x : Vertex) (o : Option TermId) → (shown table x o).node ≡ x.node
shown_node table x None = refl
shown_node table x (Some f) = elim (adds table x f) as (λ (b : Bool). (if b then with_conjunct f x else x).node ≡ x.node) [ true ↦ refl | false ↦ refl ]

pub shown_children : (table : Table) (x : Vertex) (o : Option TermId) → (shown table x o).children ≡ x.children
shown_children table x None = refl
shown_children table x (Some f) = elim (adds table x f) as (λ (b : Bool). (if b then with_conjunct f x else x).children ≡ x.children) [ true ↦ refl | false ↦ refl ]

-- Trees of one form: labels and versions aside, they are equal.
pub record Alike (vs ws : List Vertex) : Type 0 where
  pub size : length ws ≡ length vs
  pub parent : (k : ℕ) → (vertex_at ws k).parent ≡ (vertex_at vs k).parent
  pub by : (k : ℕ) → (vertex_at ws k).by ≡ (vertex_at vs k).by
  pub node : (k : ℕ) → (vertex_at ws k).node ≡ (vertex_at vs k).node
  pub children : (k : ℕ) → (vertex_at ws k).children ≡ (vertex_at vs k).children

pub family_alike : (vs ws : List Vertex) → Alike vs ws → Family vs → Family ws
family_alike vs ws a f = record {
  some = omega (arith, f.some, a.size);
  below = λ k p lt e. f.below k p (omega (arith, lt, a.size)) (sym (a.parent k) ∙ e);
  kids = λ v lt.
      let old = f.kids v (omega (arith, lt, a.size)) in
      let P : VertexId → Type 0 = λ c. (c.0 < length ws) × ((vertex_at ws c.0).parent ≡ Some v) in
      let moved : All P (vertex_at vs v.0).children = λ k d l. let h = old k d l in (omega (arith, h.0, a.size), a.parent (slice_index_or (vertex_at vs v.0).children k d).0 ∙ h.1) in
      subst (All P) (sym (a.children v.0)) moved;
}

pub path_alike : (vs ws : List Vertex) → Alike vs ws → Family vs → (v : VertexId) → v.0 < length vs → path_of ws v ≡ path_of vs v
path_alike vs ws a f v lt =
    let q = path_is vs f (length vs) v.0 lt lt in
    path_runs (path_moves ws q (λ k le. a.parent k)) (length ws) (omega (arith, lt, a.size))

pub led_alike : (vs ws : List Vertex) → Alike vs ws → (cs : List VertexId) (es : List EdgeId) → LedBy vs cs es → LedBy ws cs es
led_alike vs ws a [] [] l = l
led_alike vs ws a [] (e ∷ es) l = l
led_alike vs ws a (c ∷ cs) [] l = l
led_alike vs ws a (c ∷ cs) (e ∷ es) l = (a.by c.0 ∙ l.0, led_alike vs ws a cs es l.1)

-- Pairs.

pub left_fewer_onto : (ws : List ℕ) (ps : List Pair) (x : ℕ) → is_left (pairs_but_onto ws ps) x ≡ true → is_left ps x ≡ true
left_fewer_onto ws [] x h = h
left_fewer_onto ws (p ∷ ps) x h = elim (cases_Bool (has p.1.0 ws)) [
  | inl y ↦ let k : is_left (pairs_but_onto ws ps) x ≡ true = rw y at h in or_right (nat_eq p.0.0 x) (is_left ps x) (left_fewer_onto ws ps x k)
  | inr n ↦
      let k : nat_eq p.0.0 x || is_left (pairs_but_onto ws ps) x ≡ true = rw n at h in
      elim (or_cases (nat_eq p.0.0 x) (is_left (pairs_but_onto ws ps) x) k) [
        | inl a ↦ or_left (nat_eq p.0.0 x) (is_left ps x) a
        | inr b ↦ or_right (nat_eq p.0.0 x) (is_left ps x) (left_fewer_onto ws ps x b)
      ]
]

left_fewer_under : (vs : List Vertex) (v : VertexId) (ps : List Pair) (x : ℕ) → is_left (pairs_but_under vs v ps) x ≡ true → is_left ps x ≡ true
left_fewer_under vs v [] x h = h
left_fewer_under vs v (p ∷ ps) x h = elim (cases_Bool (has v.0 (path_of vs p.1))) [
  | inl y ↦ let k : is_left (pairs_but_under vs v ps) x ≡ true = rw y at h in or_right (nat_eq p.0.0 x) (is_left ps x) (left_fewer_under vs v ps x k)
  | inr n ↦
      let k : nat_eq p.0.0 x || is_left (pairs_but_under vs v ps) x ≡ true = rw n at h in
      elim (or_cases (nat_eq p.0.0 x) (is_left (pairs_but_under vs v ps) x) k) [
        | inl a ↦ or_left (nat_eq p.0.0 x) (is_left ps x) a
        | inr b ↦ or_right (nat_eq p.0.0 x) (is_left ps x) (left_fewer_under vs v ps x b)
      ]
]

-- what holds of each pair holds of those that are kept, with what kept them
pub each_onto : (P Q : Pair → Type 0) (ws : List ℕ) (ps : List Pair) → All P ps → ((p : Pair) → P p → has p.1.0 ws ≡ false → Q p) → All Q (pairs_but_onto ws ps)
each_onto P Q ws [] a h = λ k d lt. absurd (omega (arith, lt))
each_onto P Q ws (p ∷ ps) a h = elim (cases_Bool (has p.1.0 ws)) [
  | inl y ↦ rw y (each_onto P Q ws ps (λ k d lt. a (suc k) d (omega (arith, lt))) h)
  | inr n ↦ rw n (cons_all Q p (pairs_but_onto ws ps) (h p (a 0 p (omega arith)) n) (each_onto P Q ws ps (λ k d lt. a (suc k) d (omega (arith, lt))) h))
]
  where
    cons_all : (Q : Pair → Type 0) (p : Pair) (qs : List Pair) → Q p → All Q qs → All Q (p ∷ qs)
    cons_all Q p qs q all zero d lt = q
    cons_all Q p qs q all (suc k) d lt = all k d (omega (arith, lt))

each_under : (P Q : Pair → Type 0) (vs : List Vertex) (v : VertexId) (ps : List Pair) → All P ps → ((p : Pair) → P p → has v.0 (path_of vs p.1) ≡ false → Q p) → All Q (pairs_but_under vs v ps)
each_under P Q vs v [] a h = λ k d lt. absurd (omega (arith, lt))
each_under P Q vs v (p ∷ ps) a h = elim (cases_Bool (has v.0 (path_of vs p.1))) [
  | inl y ↦ rw y (each_under P Q vs v ps (λ k d lt. a (suc k) d (omega (arith, lt))) h)
  | inr n ↦ rw n (cons_all Q p (pairs_but_under vs v ps) (h p (a 0 p (omega arith)) n) (each_under P Q vs v ps (λ k d lt. a (suc k) d (omega (arith, lt))) h))
]
  where
    cons_all : (Q : Pair → Type 0) (p : Pair) (qs : List Pair) → Q p → All Q qs → All Q (p ∷ qs)
    cons_all Q p qs q all zero d lt = q
    cons_all Q p qs q all (suc k) d lt = all k d (omega (arith, lt))

-- CoverNo.

pub good_part : (g : Flow) (u : Unwound) (v w : VertexId) (store : List ℕ) → Good g u → Good g (after_part u v w store)
good_part g u v w store h = record {
  family = h.family;
  root = h.root;
  inside = h.inside;
  well = record { root = h.well.root; follows = h.well.follows; families = h.well.families; pairs = h.well.pairs };
}

-- CoverYes.

any_of_two : (s t r : ℕ → Bool) (xs : List ℕ) → ((x : ℕ) → s x ≡ true → (t x ≡ true) ⊎ (r x ≡ true)) → any_of t xs ≡ false → any_of r xs ≡ false → any_of s xs ≡ false
any_of_two s t r [] h a b = refl
any_of_two s t r (x ∷ xs) h a b = both (s x) (t x) (r x) (any_of s xs) (any_of t xs) (any_of r xs) (h x) (any_of_two s t r xs h) a b
  where
    both : (a b c x y z : Bool) → (a ≡ true → (b ≡ true) ⊎ (c ≡ true)) → (y ≡ false → z ≡ false → x ≡ false) → b || y ≡ false → c || z ≡ false → a || x ≡ false
    both a true c x y z f g i j = absurd cc
    both a false true x y z f g i j = absurd cc
    both true false false x y z f g i j = absurd (elim (f refl) [ inl e ↦ cc | inr e ↦ cc ])
    both false false false x y z f g i j = g i j

left_last : (ps : List Pair) (v w : VertexId) (x : ℕ) → is_left (ps ++ (v, w) ∷ []) x ≡ true → (is_left ps x ≡ true) ⊎ (nat_eq x v.0 ≡ true)
left_last [] v w x h = elim (or_cases (nat_eq v.0 x) false h) [ inl a ↦ inr (let e : v.0 ≡ x = eqb-true v.0 x a in eq-eqb x v.0 (sym e)) | inr b ↦ absurd cc ]
left_last (p ∷ ps) v w x h = elim (or_cases (nat_eq p.0.0 x) (is_left (ps ++ (v, w) ∷ []) x) h) [
  | inl a ↦ inl (or_left (nat_eq p.0.0 x) (is_left ps x) a)
  | inr b ↦ elim (left_last ps v w x b) [ inl c ↦ inl (or_right (nat_eq p.0.0 x) (is_left ps x) c) | inr d ↦ inr d ]
]

-- a vertex that is not below the one that is covered now stays uncovered
uncovered_still : (u : Unwound) (v w x : VertexId) → is_covered u x ≡ false → has v.0 (path_of u.vertices x) ≡ false → is_covered (after_cover u v w) x ≡ false
uncovered_still u v w x c n =
    any_of_two (is_left (pairs_but_under u.vertices v u.pairs ++ (v, w) ∷ [])) (is_left u.pairs) (λ y. nat_eq y v.0) (path_of u.vertices x)
    (λ y h. elim (left_last (pairs_but_under u.vertices v u.pairs) v w y h) [ inl a ↦ inl (left_fewer_under u.vertices v u.pairs y a) | inr b ↦ inr b ])
    c n

pub record Pairable (u : Unwound) (v w : VertexId) : Type 0 where
  pub node : (vertex_at u.vertices v.0).node ≡ (vertex_at u.vertices w.0).node
  pub right : is_covered u w ≡ false
  pub below : is_above u.vertices v w ≡ false

not_parts : (a b : Bool) → not a && b ≡ true → (a ≡ false) × (b ≡ true)
not_parts true b h = absurd cc
not_parts false b h = (refl, h)

pairable : (u : Unwound) (v w : VertexId) → may_pair u v w ≡ true → Pairable u v w
pairable u v w h =
    let a = not_parts (same v w) _ h in
    let b = and_parts (nat_eq (vertex_at u.vertices v.0).node.0 (vertex_at u.vertices w.0).node.0) _ a.1 in
    let c = not_parts (is_covered u v) _ b.1 in
    let d = not_parts (is_covered u w) _ c.1 in
    let e = not_parts (is_above u.vertices v w) _ d.1 in
    record {
      node = (let n : (vertex_at u.vertices v.0).node.0 ≡ (vertex_at u.vertices w.0).node.0 = eqb-true (vertex_at u.vertices v.0).node.0 (vertex_at u.vertices w.0).node.0 b.0 in let F : ℕ → NodeId = λ n. record { 0 = n } in ap F n);
      right = d.0;
      below = e.0;
    }

pub good_cover : (g : Flow) (u : Unwound) (v w : VertexId) → Good g u → CanCover g u v w → Good g (after_cover u v w)
good_cover g u v w h can =
    let In : Pair → Type 0 = λ p. (p.0.0 < length u.vertices) × (p.1.0 < length u.vertices) in
    let Old : Pair → Type 0 = λ p. PairHolds g u p.0 p.1 in
    let New : Pair → Type 0 = λ p. PairHolds g (after_cover u v w) p.0 p.1 in
    let m = pairable u v w can.pair in
    record {
      family = h.family;
      root = h.root;
      inside = All-push In (pairs_but_under u.vertices v u.pairs) (v, w) (each_under In In u.vertices v u.pairs h.inside (λ p q n. q)) (can.left, can.right);
      well = record {
        root = h.well.root;
        follows = h.well.follows;
        families = h.well.families;
        pairs = All-push New (pairs_but_under u.vertices v u.pairs) (v, w) (each_under Old New u.vertices v u.pairs h.well.pairs (λ p q n. (q.0, q.1, uncovered_still u v w p.1 q.2 n, q.3))) (m.node, can.implies, uncovered_still u v w w m.right m.below, m.below);
      };
    }
