-- What a Refine makes of the vertices of a path.
use Rattle.std.proofs.Common.{◌≡◌, ◌≢◌, ℕ, ◌<◌, ◌≤◌, Bool, true, false, cond, not, ◌&&◌, List, [], ◌∷◌, length, Option, Some, None, inl, inr, refl, sym, ap, ◌∙◌, subst, arith, nat_eq, if◌then◌else◌}
use Rattle.std.proofs.lemmas.Bool.{eqb-true, eq-eqb, cases_Bool, or_left, or_right}
use Rattle.bv_term.specs.declared.term.TermId.{TermId}
use Rattle.bv_term.specs.WellFormed.{Table}
use Rattle.reach_tree.specs.declared.vertex.Vertex.{Vertex}
use Rattle.reach_tree.specs.Trees.{vertex_at, with_conjunct, strengthened}
use Rattle.needed_cells.specs.Formulas.{is_true_term}
use Rattle.cover_engine.specs.Unwindings.{has}
use Rattle.cover_engine.specs.Units.{strengthens, refined_along, strengthened_along, numbers_of}
use Rattle.unwinding_laws.proofs.Vertices.{changed_same, changed_other, changed_length}
use Rattle.unwinding_laws.proofs.Paths.{Falls}
use Rattle.unwinding_laws.proofs.Formulas.{formula_of}

-- whether a vertex is strengthened by a formula
abbrev pub adds : Table → Vertex → TermId → Bool
adds table x f = not (is_true_term table f) && not (has f.0 (numbers_of x.label))

-- a vertex behind the formula at it
abbrev pub shown : Table → Vertex → Option TermId → Vertex
shown table x None = x
shown table x (Some f) = if adds table x f then with_conjunct f x else x

one : List Vertex → ℕ → TermId → Bool → List Vertex
one vs x f b = if b then strengthened vs (record { 0 = x }) f else vs

one_other : (vs : List Vertex) (x y : ℕ) (f : TermId) (b : Bool) → y ≢ x → vertex_at (one vs x f b) y ≡ vertex_at vs y
unfolding one
one_other vs x y f true ne = changed_other vs x y (with_conjunct f) ne
one_other vs x y f false ne = refl

one_same : (vs : List Vertex) (x : ℕ) (f : TermId) (b : Bool) → x < length vs → vertex_at (one vs x f b) x ≡ (if b then with_conjunct f (vertex_at vs x) else vertex_at vs x)
unfolding one
one_same vs x f true lt = changed_same vs x (with_conjunct f) lt
one_same vs x f false lt = refl

one_length : (vs : List Vertex) (x : ℕ) (f : TermId) (b : Bool) → length (one vs x f b) ≡ length vs
unfolding one
one_length vs x f true = changed_length vs x (with_conjunct f)
one_length vs x f false = refl

next : (table : Table) (vs : List Vertex) (x : ℕ) (xs : List ℕ) (f : TermId) (fs : List TermId) → refined_along table vs (x ∷ xs) (f ∷ fs) ≡ refined_along table (one vs x f (strengthens table vs x f)) xs fs
unfolding one
next table vs x xs f fs = refl

pub refined_length : (table : Table) (vs : List Vertex) (xs : List ℕ) (fs : List TermId) → length (refined_along table vs xs fs) ≡ length vs
refined_length table vs [] fs = refl
refined_length table vs (x ∷ xs) [] = refl
refined_length table vs (x ∷ xs) (f ∷ fs) =
    ap length (next table vs x xs f fs) ∙ refined_length table (one vs x f (strengthens table vs x f)) xs fs ∙ one_length vs x f (strengthens table vs x f)

-- a vertex above all that fall stays
untouched : (table : Table) (vs : List Vertex) (xs : List ℕ) (fs : List TermId) (b y : ℕ) → Falls b xs → b ≤ y → vertex_at (refined_along table vs xs fs) y ≡ vertex_at vs y
untouched table vs [] fs b y l le = refl
untouched table vs (x ∷ xs) [] b y l le = refl
untouched table vs (x ∷ xs) (f ∷ fs) b y l le =
    let ne : y ≢ x = λ e. omega (arith, e, l.0, le) in
    ap (λ (w : List Vertex). vertex_at w y) (next table vs x xs f fs) ∙ untouched table (one vs x f (strengthens table vs x f)) xs fs x y l.1 (omega (arith, l.0, le)) ∙ one_other vs x y f (strengthens table vs x f) ne

-- each vertex is as it was, or has its formula as a further conjunct
pub at_refined : (table : Table) (vs : List Vertex) (xs : List ℕ) (fs : List TermId) (b y : ℕ) → Falls b xs → b ≤ length vs → vertex_at (refined_along table vs xs fs) y ≡ shown table (vertex_at vs y) (formula_of xs fs y)
at_refined table vs [] fs b y l le = refl
at_refined table vs (x ∷ xs) [] b y l le = refl
at_refined table vs (x ∷ xs) (f ∷ fs) b y l le =
    let ws : List Vertex = one vs x f (strengthens table vs x f) in
    let first : vertex_at (refined_along table vs (x ∷ xs) (f ∷ fs)) y ≡ vertex_at (refined_along table ws xs fs) y = ap (λ (w : List Vertex). vertex_at w y) (next table vs x xs f fs) in
    elim (cases_Bool (nat_eq x y)) [
      | inl e ↦
          let q : x ≡ y = eqb-true x y e in
          let lt : x < length vs = omega (arith, l.0, le) in
          let here : vertex_at ws y ≡ shown table (vertex_at vs y) (Some f) = subst (λ (z : ℕ). vertex_at (one vs x f (strengthens table vs x f)) z ≡ shown table (vertex_at vs z) (Some f)) q (one_same vs x f (strengthens table vs x f) lt) in
          let goal : shown table (vertex_at vs y) (Some f) ≡ shown table (vertex_at vs y) (cond (nat_eq x y) (Some f) (formula_of xs fs y)) = rw e refl in
          first ∙ untouched table ws xs fs x y l.1 (omega (arith, q)) ∙ here ∙ goal
      | inr n ↦
          let ne : y ≢ x = λ e. absurd (let z : true ≡ false = sym (eq-eqb x y (sym e)) ∙ n in cc) in
          let ih = at_refined table ws xs fs x y l.1 (omega (arith, l.0, le, one_length vs x f (strengthens table vs x f))) in
          let goal : shown table (vertex_at vs y) (formula_of xs fs y) ≡ shown table (vertex_at vs y) (cond (nat_eq x y) (Some f) (formula_of xs fs y)) = rw n refl in
          first ∙ ih ∙ ap (λ (w : Vertex). shown table w (formula_of xs fs y)) (one_other vs x y f (strengthens table vs x f) ne) ∙ goal
    ]

-- a vertex with a further conjunct is listed
pub listed_where_added : (table : Table) (vs : List Vertex) (xs : List ℕ) (fs : List TermId) (b y : ℕ) (f : TermId) → Falls b xs → formula_of xs fs y ≡ Some f → adds table (vertex_at vs y) f ≡ true → has y (strengthened_along table vs xs fs) ≡ true
listed_where_added table vs [] fs b y f l is a = absurd cc
listed_where_added table vs (x ∷ xs) [] b y f l is a = absurd cc
listed_where_added table vs (x ∷ xs) (h ∷ fs) b y f l is a = elim (cases_Bool (nat_eq x y)) [
  | inl e ↦
      let q : x ≡ y = eqb-true x y e in
      let s : Some h ≡ Some f = rw e at is in
      let hf : h ≡ f = cc in
      let added : adds table (vertex_at vs x) h ≡ true = subst (λ (z : ℕ). adds table (vertex_at vs z) h ≡ true) (sym q) (subst (λ w. adds table (vertex_at vs y) w ≡ true) (sym hf) a) in
      rw added (or_left (nat_eq x y) (has y (strengthened_along table (strengthened vs (record { 0 = x }) h) xs fs)) e)
  | inr n ↦
      let ne : y ≢ x = λ e. absurd (let z : true ≡ false = sym (eq-eqb x y (sym e)) ∙ n in cc) in
      let is2 : formula_of xs fs y ≡ Some f = rw n at is in
      let same : vertex_at (strengthened vs (record { 0 = x }) h) y ≡ vertex_at vs y = changed_other vs x y (with_conjunct h) ne in
      let there = listed_where_added table (strengthened vs (record { 0 = x }) h) xs fs x y f l.1 is2 (ap (λ (w : Vertex). adds table w f) same ∙ a) in
      let stays = listed_where_added table vs xs fs x y f l.1 is2 a in
      either (strengthens table vs x h) x y (strengthened_along table (strengthened vs (record { 0 = x }) h) xs fs) (strengthened_along table vs xs fs) there stays
]
  where
    either : (s : Bool) (x y : ℕ) (ms ns : List ℕ) → has y ms ≡ true → has y ns ≡ true → has y (if s then x ∷ ms else ns) ≡ true
    either true x y ms ns h k = or_right (nat_eq x y) (has y ms) h
    either false x y ms ns h k = k
