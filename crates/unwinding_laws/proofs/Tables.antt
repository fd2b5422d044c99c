-- A table that grows leaves an unwinding legal.
use Rattle.std.proofs.Common.{◌≡◌, ℕ, ◌+◌, ◌<◌, Bool, true, false, ◌||◌, List, [], ◌∷◌, ◌++◌, length, inl, inr, refl, sym, ap, ◌∙◌, subst, arith, zero, suc, slice_get, slice_index_or, reverse, IsTrue, if◌then◌else◌, length-append}
use Rattle.std.specs.List.{All}
use Rattle.std.specs.Prelude.{Contains}
use Rattle.std.proofs.lemmas.List.{reverse-append}
use Rattle.std.proofs.lemmas.List.Elements.{All-push}
use Rattle.std.proofs.lemmas.Bool.{cases_eq, cases_lt}
use Rattle.std.proofs.lemmas.List.{set_past}
use Rattle.unwinding_laws.proofs.Vertices.{changed_same, changed_other}
use Rattle.bv_term.specs.declared.term.TermId.{TermId}
use Rattle.bv_term.specs.declared.term.Term.{Term}
use Rattle.bv_term.specs.WellFormed.{Table}
use Rattle.bv_term.specs.Values.{value}
use Rattle.bv_term.specs.Laws.{Extends}
use Rattle.bv_term.proofs.Staying.{values_stay, widths_stay}
use Rattle.c_graph.specs.declared.graph.EdgeId.{EdgeId}
use Rattle.c_graph.specs.declared.graph.Edge.{Edge}
use Rattle.c_graph.specs.Shape.{Flow, HasWidth, outs}
use Rattle.reach_tree.specs.declared.vertex.VertexId.{VertexId}
use Rattle.reach_tree.specs.declared.vertex.Vertex.{Vertex}
use Rattle.reach_tree.specs.Trees.{vertex_at, with_conjunct, with_children, strengthened, changed, leaves_of, numbers_from, root_at}
use Rattle.cover_engine.specs.declared.unit.UnitDone.{UnitDone}
use Rattle.cover_engine.specs.declared.unit.UnitDone.TheVariants.{Expand, Refine, CoverYes, CoverNo}
use Rattle.needed_cells.specs.Reads.{names, named_in, named_after, list_at, needed_along}
use Rattle.cover_engine.specs.Unwindings.{Unwound, some_false, is_open_leaf, path_of}
use Rattle.needed_cells.specs.Formulas.{EdgeImplies, begins_true, is_bit, is_false_term, is_true_term}
use Rattle.cover_engine.specs.Units.{Meets, Links, NameNeeded, edges_to, Can, CanAll, after, after_all, start, Legal, refined_along, strengthened_along, strengthens}

-- Terms of the first table keep their meaning.

get_front : {A : Type 0} (xs ys : List A) (k : ℕ) → k < length xs → slice_get (xs ++ ys) k ≡ slice_get xs k
get_front [] ys k lt = absurd (omega (arith, lt))
get_front (x ∷ xs) ys zero lt = refl
get_front (x ∷ xs) ys (suc k) lt = get_front xs ys k (omega (arith, lt))

list_front : (xs ys : List (List ℕ)) (k : ℕ) → k < length xs → list_at (xs ++ ys) k ≡ list_at xs k
list_front [] ys k lt = absurd (omega (arith, lt))
list_front (x ∷ xs) ys zero lt = refl
list_front (x ∷ xs) ys (suc k) lt = list_front xs ys k (omega (arith, lt))

named_keep : (done : List (List ℕ)) (ts : List Term) (k : ℕ) → k < length done → list_at (named_after done ts) k ≡ list_at done k
named_keep done [] k lt = refl
named_keep done (t ∷ ts) k lt =
    named_keep (done ++ named_in done t ∷ []) ts k (omega (arith, lt, length-append done (named_in done t ∷ []))) ∙ list_front done (named_in done t ∷ []) k lt

named_append : (done : List (List ℕ)) (ts us : List Term) → named_after done (ts ++ us) ≡ named_after (named_after done ts) us
named_append done [] us = refl
named_append done (t ∷ ts) us = named_append (done ++ named_in done t ∷ []) ts us

named_length : (done : List (List ℕ)) (ts : List Term) → length (named_after done ts) ≡ length done + length ts
named_length done [] = omega arith
named_length done (t ∷ ts) = let h = named_length (done ++ named_in done t ∷ []) ts in omega (arith, h, length-append done (named_in done t ∷ []))

module _ (g : Flow) (old new : Table) (ext : Extends old new) where
  -- the conjuncts of a label are terms of the first table
  abbrev pub Known : List TermId → Type 0
  Known ts = All (λ t. t.0 < length old.terms) ts

  get_stays : (t : TermId) → t.0 < length old.terms → slice_get new.terms t.0 ≡ slice_get old.terms t.0
  get_stays t lt = ap (λ (ts : List Term). slice_get ts t.0) ext.1.1 ∙ get_front old.terms ext.1.0 t.0 lt

  true_stays : (t : TermId) → t.0 < length old.terms → is_true_term new t ≡ is_true_term old t
  true_stays t lt = ap (is_bit 1) (get_stays t lt)

  false_stays : (t : TermId) → t.0 < length old.terms → is_false_term new t ≡ is_false_term old t
  false_stays t lt = ap (is_bit 0) (get_stays t lt)

  holds_stays : (store : List ℕ) (t : TermId) → t.0 < length old.terms → value new store t ≡ value old store t
  holds_stays store t lt = values_stay old new store t ext lt

  names_stay : (t : TermId) → t.0 < length old.terms → names new t ≡ names old t
  names_stay t lt =
      ap (λ (ts : List Term). list_at (named_after [] ts) t.0) ext.1.1
      ∙ ap (λ (w : List (List ℕ)). list_at w t.0) (named_append [] old.terms ext.1.0)
      ∙ named_keep (named_after [] old.terms) ext.1.0 t.0 (omega (arith, lt, named_length [] old.terms))

  rest_known : (t : TermId) (ts : List TermId) → Known (t ∷ ts) → (t.0 < length old.terms) × Known ts
  rest_known t ts k = (k 0 t (omega arith), λ j d lt. k (suc j) d (omega (arith, lt)))

  meets_to : (store : List ℕ) (ts : List TermId) → Known ts → Meets old store ts → Meets new store ts
  meets_to store ts k m j d lt = holds_stays store (slice_index_or ts j d) (k j d lt) ∙ m j d lt

  meets_from : (store : List ℕ) (ts : List TermId) → Known ts → Meets new store ts → Meets old store ts
  meets_from store ts k m j d lt = sym (holds_stays store (slice_index_or ts j d) (k j d lt)) ∙ m j d lt

  some_false_stays : (ts : List TermId) → Known ts → some_false new ts ≡ some_false old ts
  some_false_stays [] k = refl
  some_false_stays (t ∷ ts) k =
      let (a, b) = rest_known t ts k in
      ap (λ x. x || some_false new ts) (false_stays t a) ∙ ap (λ x. is_false_term old t || x) (some_false_stays ts b)

  edge_stays : (e : EdgeId) (f h : TermId) → f.0 < length old.terms → h.0 < length old.terms → EdgeImplies g old e f h → EdgeImplies g new e f h
  edge_stays e f h a b i edge store draws after ge whole m leads =
      holds_stays after h b ∙ i edge store draws after ge whole (sym (holds_stays store f a) ∙ m) leads

  links_stay : (vs : List Vertex) (xs : List ℕ) (fs : List TermId) → Known fs → Links g old vs xs fs → Links g new vs xs fs
  links_stay vs [] fs k l = l
  links_stay vs (x ∷ xs) [] k l = l
  links_stay vs (x ∷ []) (f ∷ []) k l = subst IsTrue (sym (false_stays f (k 0 f (omega arith)))) l
  links_stay vs (x ∷ []) (f ∷ h ∷ fs) k l = l
  links_stay vs (x ∷ y ∷ xs) (f ∷ []) k l = l
  links_stay vs (x ∷ y ∷ xs) (f ∷ h ∷ fs) k l =
      let (a, b) = rest_known f (h ∷ fs) k in
      ((l.0.0, l.0.1, edge_stays l.0.0 f h a (b 0 h (omega arith)) l.0.2), links_stay vs (y ∷ xs) (h ∷ fs) b l.1)

  needed_stays : (vs : List Vertex) (xs : List ℕ) (fs : List TermId) → Known fs → NameNeeded g old vs xs fs → NameNeeded g new vs xs fs
  needed_stays vs [] fs k n = tt
  needed_stays vs (x ∷ xs) [] k n = tt
  needed_stays vs (x ∷ xs) (f ∷ fs) k n =
      let (a, b) = rest_known f fs k in
      (subst (λ (w : List ℕ). All (Contains (needed_along g (edges_to vs xs))) w) (sym (names_stay f a)) n.0, needed_stays vs xs fs b n.1)

  begins_stays : (fs : List TermId) → Known fs → begins_true new fs ≡ begins_true old fs
  begins_stays [] k = refl
  begins_stays (f ∷ fs) k = true_stays f (k 0 f (omega arith))

  strengthens_stays : (vs : List Vertex) (x : ℕ) (f : TermId) → f.0 < length old.terms → strengthens new vs x f ≡ strengthens old vs x f
  strengthens_stays vs x f lt = rw (true_stays f lt) refl

  refined_stays : (vs : List Vertex) (xs : List ℕ) (fs : List TermId) → Known fs → refined_along new vs xs fs ≡ refined_along old vs xs fs
  refined_stays vs [] fs k = refl
  refined_stays vs (x ∷ xs) [] k = refl
  refined_stays vs (x ∷ xs) (f ∷ fs) k =
      let (a, b) = rest_known f fs k in
      ap (λ (s : Bool). refined_along new (if s then strengthened vs (record { 0 = x }) f else vs) xs fs) (strengthens_stays vs x f a)
      ∙ refined_stays (if strengthens old vs x f then strengthened vs (record { 0 = x }) f else vs) xs fs b

  listed_stays : (vs : List Vertex) (xs : List ℕ) (fs : List TermId) → Known fs → strengthened_along new vs xs fs ≡ strengthened_along old vs xs fs
  listed_stays vs [] fs k = refl
  listed_stays vs (x ∷ xs) [] k = refl
  listed_stays vs (x ∷ xs) (f ∷ fs) k =
      let (a, b) = rest_known f fs k in
      ap (λ (s : Bool). if s then x ∷ strengthened_along new (strengthened vs (record { 0 = x }) f) xs fs else strengthened_along new vs xs fs) (strengthens_stays vs x f a)
      ∙ ap (λ (w : List ℕ). if strengthens old vs x f then x ∷ w else strengthened_along new vs xs fs) (listed_stays (strengthened vs (record { 0 = x }) f) xs fs b)
      ∙ ap (λ (w : List ℕ). if strengthens old vs x f then x ∷ strengthened_along old (strengthened vs (record { 0 = x }) f) xs fs else w) (listed_stays vs xs fs b)

  -- the unwinding over either table
  abbrev pub before : Unwound → Unwound
  before u = record u { terms = old }

  abbrev pub later : Unwound → Unwound
  later u = record u { terms = new }

  -- every label is of terms of the first table
  abbrev pub Labelled : List Vertex → Type 0
  Labelled vs = (k : ℕ) → Known (vertex_at vs k).label

  known_of : (fs : List TermId) → All (λ t. HasWidth old t 1) fs → Known fs
  known_of fs h k d lt = (h k d lt).0

  known_reverse : (fs : List TermId) → Known fs → Known (reverse fs)
  known_reverse [] k = k
  known_reverse (f ∷ fs) k =
      let (a, b) = rest_known f fs k in
      subst Known (sym (reverse-append (f ∷ []) fs)) (All-push (λ t. t.0 < length old.terms) (reverse fs) f (known_reverse fs b) a)

  pub open_stays : (u : Unwound) (v : VertexId) → Labelled u.vertices → is_open_leaf g (later u) v ≡ is_open_leaf g (before u) v
  open_stays u v k = rw (some_false_stays (vertex_at u.vertices v.0).label (k v.0)) refl

  can_later : (u : Unwound) (x : UnitDone) → Labelled u.vertices → Can g (before u) x → Can g (later u) x
  can_later u (Expand v) k c = record { vertex = c.vertex; leaf = open_stays u v k ∙ c.leaf; node = c.node }
  can_later u (Refine v fs) k c =
      let f : Known fs = known_of fs c.terms in
      record {
        vertex = c.vertex;
        leaf = open_stays u v k ∙ c.leaf;
        node = c.node;
        terms = λ j d lt. let h = c.terms j d lt in (omega (arith, h.0, ap length ext.1.1, length-append old.terms ext.1.0), widths_stay old new (slice_index_or fs j d) ext h.0 ∙ h.1);
        first = begins_stays fs f ∙ c.first;
        links = links_stay u.vertices (reverse (path_of u.vertices v)) fs f c.links;
        names = needed_stays u.vertices (reverse (path_of u.vertices v)) fs f c.names;
      }
  can_later u (CoverYes v w) k c = record {
    left = c.left;
    right = c.right;
    pair = c.pair;
    implies = λ store whole m. meets_to store (vertex_at u.vertices w.0).label (k w.0) (c.implies store whole (meets_from store (vertex_at u.vertices v.0).label (k v.0) m));
  }
  can_later u (CoverNo v w store) k c = record {
    left = c.left;
    right = c.right;
    pair = c.pair;
    whole = c.whole;
    meets = meets_to store (vertex_at u.vertices v.0).label (k v.0) c.meets;
    misses = λ m. c.misses (meets_from store (vertex_at u.vertices w.0).label (k w.0) m);
  }

  pub after_later : (u : Unwound) (x : UnitDone) → Can g (before u) x → after g (later u) x ≡ later (after g (before u) x)
  after_later u (Expand v) c = refl
  after_later u (Refine v fs) c =
      let f : Known (reverse fs) = known_reverse fs (known_of fs c.terms) in
      rw (refined_stays u.vertices (path_of u.vertices v) (reverse fs) f, listed_stays u.vertices (path_of u.vertices v) (reverse fs) f) refl
  after_later u (CoverYes v w) c = refl
  after_later u (CoverNo v w store) c = refl

  pub after_before : (u : Unwound) (x : UnitDone) → after g (before u) x ≡ before (after g (before u) x)
  after_before u (Expand v) = refl
  after_before u (Refine v fs) = refl
  after_before u (CoverYes v w) = refl
  after_before u (CoverNo v w store) = refl

  -- labels behind a Refine
  known_one : (vs : List Vertex) (x : ℕ) (f : TermId) (s : Bool) → f.0 < length old.terms → Labelled vs → Labelled (if s then strengthened vs (record { 0 = x }) f else vs)
  known_one vs x f false lt k j = k j
  known_one vs x f true lt k j = elim (cases_eq j x) [
    | inl e ↦ elim (cases_lt x (length vs)) [
      | inl a ↦ subst (λ (i : ℕ). Known (vertex_at (strengthened vs (record { 0 = x }) f) i).label) (sym e) (subst (λ (y : Vertex). Known y.label) (sym (changed_same vs x (with_conjunct f) a)) (All-push (λ t. t.0 < length old.terms) (vertex_at vs x).label f (k x) lt))
      | inr b ↦ subst (λ (w : List Vertex). Known (vertex_at w j).label) (sym (set_past vs x (with_conjunct f (vertex_at vs x)) b)) (k j)
    ]
    | inr ne ↦ subst (λ (y : Vertex). Known y.label) (sym (changed_other vs x j (with_conjunct f) ne)) (k j)
  ]

  known_refined : (vs : List Vertex) (xs : List ℕ) (fs : List TermId) → Known fs → Labelled vs → Labelled (refined_along old vs xs fs)
  known_refined vs [] fs f k = k
  known_refined vs (x ∷ xs) [] f k = k
  known_refined vs (x ∷ xs) (h ∷ fs) f k =
      let (a, b) = rest_known h fs f in
      known_refined (if strengthens old vs x h then strengthened vs (record { 0 = x }) h else vs) xs fs b (known_one vs x h (strengthens old vs x h) a k)

  -- labels behind an Expand
  known_nothing : Known []
  known_nothing k d lt = absurd (omega (arith, lt))

  known_leaves : (edges : List Edge) (v : VertexId) (es : List EdgeId) (k : ℕ) → Known (vertex_at (leaves_of edges v es) k).label
  known_leaves edges v [] k = known_nothing
  known_leaves edges v (e ∷ es) zero = known_nothing
  known_leaves edges v (e ∷ es) (suc k) = known_leaves edges v es k

  known_append : (vs ws : List Vertex) → Labelled vs → Labelled ws → Labelled (vs ++ ws)
  known_append [] ws a b k = b k
  known_append (x ∷ vs) ws a b zero = a 0
  known_append (x ∷ vs) ws a b (suc k) = known_append vs ws (λ j. a (suc j)) b k

  known_changed : (vs : List Vertex) (v : ℕ) (cs : List VertexId) → Labelled vs → Labelled (changed vs v (with_children cs))
  known_changed vs v cs k j = elim (cases_eq j v) [
    | inl e ↦ elim (cases_lt v (length vs)) [
      | inl a ↦ subst (λ (i : ℕ). Known (vertex_at (changed vs v (with_children cs)) i).label) (sym e) (subst (λ (y : Vertex). Known y.label) (sym (changed_same vs v (with_children cs) a)) (k v))
      | inr b ↦ subst (λ (w : List Vertex). Known (vertex_at w j).label) (sym (set_past vs v (with_children cs (vertex_at vs v)) b)) (k j)
    ]
    | inr ne ↦ subst (λ (y : Vertex). Known y.label) (sym (changed_other vs v j (with_children cs) ne)) (k j)
  ]

  pub known_after : (u : Unwound) (x : UnitDone) → Can g (before u) x → Labelled u.vertices → Labelled (after g (before u) x).vertices
  known_after u (Expand v) c k =
      known_append (changed u.vertices v.0 (with_children (numbers_from (length u.vertices) (length (outs g (vertex_at u.vertices v.0).node))))) (leaves_of g.edges v (outs g (vertex_at u.vertices v.0).node))
      (known_changed u.vertices v.0 (numbers_from (length u.vertices) (length (outs g (vertex_at u.vertices v.0).node))) k)
      (known_leaves g.edges v (outs g (vertex_at u.vertices v.0).node))
  known_after u (Refine v fs) c k = known_refined u.vertices (path_of u.vertices v) (reverse fs) (known_reverse fs (known_of fs c.terms)) k
  known_after u (CoverYes v w) c k = k
  known_after u (CoverNo v w store) c k = k

  -- a list of legal units is legal over the larger table, and makes the same
  all_later : (u : Unwound) (xs : List UnitDone) → Labelled u.vertices → CanAll g (before u) xs → CanAll g (later u) xs × (after_all g (later u) xs ≡ later (after_all g (before u) xs))
  all_later u [] k c = (tt, refl)
  all_later u (x ∷ xs) k c =
      let next : Unwound = after g (before u) x in
      let same : next ≡ before next = after_before u x in
      let rest : CanAll g (before next) xs = subst (λ (w : Unwound). CanAll g w xs) same c.1 in
      let (a, b) = all_later next xs (known_after u x c.0 k) rest in
      let there : after g (later u) x ≡ later next = after_later u x c.0 in (
        (can_later u x k c.0, subst (λ (w : Unwound). CanAll g w xs) (sym there) a),
        ap (λ (w : Unwound). after_all g w xs) there ∙ b ∙ ap (λ (w : Unwound). later (after_all g w xs)) (sym same),
      )

  pub known_start : Labelled (root_at g.entry ∷ [])
  known_start zero = known_nothing
  known_start (suc k) = known_nothing

  pub legal_later : (u : Unwound) → u.terms ≡ old → Legal g u → Legal g (record u { terms = new })
  legal_later u e l =
      let units : CanAll g (start g old) u.journal = subst (λ (t : Table). CanAll g (start g t) u.journal) e l.units in
      let made : u ≡ after_all g (start g old) u.journal = l.made ∙ ap (λ (t : Table). after_all g (start g t) u.journal) e in
      let (a, b) = all_later (start g old) u.journal known_start units in
      record {
        cells = ext.0 ∙ ap (λ (t : Table). t.cells) (sym e) ∙ l.cells;
        units = a;
        made = ap (λ (w : Unwound). later w) made ∙ sym b;
      }
