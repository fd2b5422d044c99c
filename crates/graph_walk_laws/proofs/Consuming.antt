-- Operations draw from the front of the values, and leave the others.
use Rattle.std.proofs.Common.{◌≡◌, ℕ, ℤ, List, [], ◌∷◌, ◌++◌, Option, Some, None, refl, sym, ap, ◌∙◌, slice_index, slice_set, ◌==◌, ◌⊎◌, inl, inr, append_assoc}
use Rattle.std.proofs.lemmas.Bool.{cases_Bool}
use Rattle.bv_term.specs.WellFormed.{Table}
use Rattle.bv_term.specs.Values.{value}
use Rattle.c_graph.specs.declared.graph.Operation.{Operation}
use Rattle.c_graph.specs.declared.graph.Operation.TheVariants.{Assume, Set, SetAt, Draw}
use Rattle.c_graph.specs.Steps.{Moment, moment, drawn, in_range_of, modulo, stored_at, operated, operated_all}

-- the moment with further values behind those that are left
abbrev pub with_rest : List ℤ → Moment → Moment
with_rest rest m = moment m.store (m.inputs ++ rest)

-- what an operation makes with further values behind
one_more : (table : Table) (op : Operation) (m a : Moment) (rest : List ℤ) → operated table op m ≡ Some a → operated table op (with_rest rest m) ≡ Some (with_rest rest a)
one_more table (Assume t) m a rest h = elim (cases_Bool (value table m.store t == 1)) [
  | inl y ↦ let q : Some m ≡ Some a = rw y at h in let e : m ≡ a = cc in rw y (ap (λ (x : Moment). Some (with_rest rest x)) e)
  | inr n ↦ absurd (let q : None ≡ Some a = rw n at h in cc)
]
one_more table (Set c t) m a rest h = let e : moment (slice_set m.store c (value table m.store t)) m.inputs ≡ a = cc in ap (λ (x : Moment). Some (with_rest rest x)) e
one_more table (SetAt first n i t) m a rest h = let e : moment (stored_at m.store first n (value table m.store i) (value table m.store t)) m.inputs ≡ a = cc in ap (λ (x : Moment). Some (with_rest rest x)) e
one_more table (Draw c signed) m a rest h = draw m.store m.inputs h
  where
    draw : (store : List ℕ) (zs : List ℤ) → drawn table c signed store zs ≡ Some a → drawn table c signed store (zs ++ rest) ≡ Some (with_rest rest a)
    draw store [] h = absurd cc
    draw store (z ∷ zs) h = elim (cases_Bool (in_range_of (slice_index table.cells c) signed z)) [
      | inl y ↦
          let q : Some (moment (slice_set store c (modulo (slice_index table.cells c) z)) zs) ≡ Some a = rw y at h in
          let e : moment (slice_set store c (modulo (slice_index table.cells c) z)) zs ≡ a = cc in
          rw y (ap (λ (x : Moment). Some (with_rest rest x)) e)
      | inr n ↦ absurd (let q : None ≡ Some a = rw n at h in cc)
    ]

none_stays : (table : Table) (ops : List Operation) → operated_all table ops None ≡ None
none_stays table [] = refl
none_stays table (op ∷ ops) = refl

some_or_none : (o : Option Moment) → (o ≡ None) ⊎ ((m : Moment) × (o ≡ Some m))
some_or_none None = inl refl
some_or_none (Some m) = inr (m, refl)

pub more_left : (table : Table) (ops : List Operation) (m a : Moment) (rest : List ℤ) → operated_all table ops (Some m) ≡ Some a → operated_all table ops (Some (with_rest rest m)) ≡ Some (with_rest rest a)
more_left table [] m a rest h = let e : m ≡ a = cc in ap (λ (x : Moment). Some (with_rest rest x)) e
more_left table (op ∷ ops) m a rest h = elim (some_or_none (operated table op m)) [
  | inl n ↦ absurd (let q : None ≡ Some a = sym (none_stays table ops) ∙ sym (ap (operated_all table ops) n) ∙ h in cc)
  | inr s ↦
      let q : operated_all table ops (Some s.0) ≡ Some a = sym (ap (operated_all table ops) s.1) ∙ h in
      ap (operated_all table ops) (one_more table op m s.0 rest s.1) ∙ more_left table ops s.0 a rest q
]

-- the values that operations take are the first ones
one_taken : (table : Table) (op : Operation) (m a : Moment) → operated table op m ≡ Some a → (first : List ℤ) × (m.inputs ≡ first ++ a.inputs) × ((later : List ℤ) → operated table op (moment m.store (first ++ later)) ≡ Some (moment a.store later))
one_taken table (Assume t) m a h = elim (cases_Bool (value table m.store t == 1)) [
  | inl y ↦ let q : Some m ≡ Some a = rw y at h in let e : m ≡ a = cc in ([], ap (λ (x : Moment). x.inputs) e, λ later. rw y (ap (λ (x : Moment). Some (moment x.store later)) e))
  | inr n ↦ absurd (let q : None ≡ Some a = rw n at h in cc)
]
one_taken table (Set c t) m a h =
    let e : moment (slice_set m.store c (value table m.store t)) m.inputs ≡ a = cc in
    ([], ap (λ (x : Moment). x.inputs) e, λ later. ap (λ (x : Moment). Some (moment x.store later)) e)
one_taken table (SetAt first n i t) m a h =
    let e : moment (stored_at m.store first n (value table m.store i) (value table m.store t)) m.inputs ≡ a = cc in
    ([], ap (λ (x : Moment). x.inputs) e, λ later. ap (λ (x : Moment). Some (moment x.store later)) e)
one_taken table (Draw c signed) m a h = draw m.store m.inputs h
  where
    draw : (store : List ℕ) (zs : List ℤ) → drawn table c signed store zs ≡ Some a → (first : List ℤ) × (zs ≡ first ++ a.inputs) × ((later : List ℤ) → drawn table c signed store (first ++ later) ≡ Some (moment a.store later))
    draw store [] h = absurd cc
    draw store (z ∷ zs) h = elim (cases_Bool (in_range_of (slice_index table.cells c) signed z)) [
      | inl y ↦
          let q : Some (moment (slice_set store c (modulo (slice_index table.cells c) z)) zs) ≡ Some a = rw y at h in
          let e : moment (slice_set store c (modulo (slice_index table.cells c) z)) zs ≡ a = cc in
          (z ∷ [], ap (λ (x : Moment). z ∷ x.inputs) e, λ later. rw y (ap (λ (x : Moment). Some (moment x.store later)) e))
      | inr n ↦ absurd (let q : None ≡ Some a = rw n at h in cc)
    ]

pub taken : (table : Table) (ops : List Operation) (m a : Moment) → operated_all table ops (Some m) ≡ Some a → (first : List ℤ) × (m.inputs ≡ first ++ a.inputs) × (operated_all table ops (Some (moment m.store first)) ≡ Some (moment a.store []))
taken table [] m a h = let e : m ≡ a = cc in ([], ap (λ (x : Moment). x.inputs) e, ap (λ (x : Moment). Some (moment x.store [])) e)
taken table (op ∷ ops) m a h = elim (some_or_none (operated table op m)) [
  | inl n ↦ absurd (let q : None ≡ Some a = sym (none_stays table ops) ∙ sym (ap (operated_all table ops) n) ∙ h in cc)
  | inr s ↦
      let q : operated_all table ops (Some s.0) ≡ Some a = sym (ap (operated_all table ops) s.1) ∙ h in
      let (x, i, f) = one_taken table op m s.0 s.1 in
      let (y, j, k) = taken table ops s.0 a q in
      (x ++ y, i ∙ ap (λ (w : List ℤ). x ++ w) j ∙ sym (append_assoc x y a.inputs), ap (operated_all table ops) (f y) ∙ k)
]
