-- Lists with one more element, and the lists of those that watch.
use Rattle.std.proofs.Common.{◌≡◌, ℕ, ◌+◌, ◌-◌, ◌<◌, ◌≤◌, Bool, true, false, ◌||◌, cond, List, [], ◌∷◌, ◌++◌, Option, Some, None, slice_get, zero, suc, ◌⊎◌, inl, inr, refl, sym, ap, ◌∙◌, subst, arith, nat_eq, length, get_or, set, get_or-set_same, get_or-set_other, length-set, length-append}
use Rattle.std.proofs.lemmas.Bool.{or_cases, both_ways, eqb-true, eq-eqb, cases_Bool, cases_eq, cases_lt}
use Rattle.prop.specs.Trues.{listed}
use Rattle.dense_trail.proofs.ValueLaws.{listed_append, listed_left, listed_last, listed_one}
use Rattle.watched_clauses.specs.declared.looking.Watch.{Watch}
use Rattle.watched_clauses.specs.Judge.{first_of, second_of, none_watched, pair_of}
use Rattle.watched_clauses.specs.Watching.{lists_in}
use Rattle.cdcl_solver.specs.Learning.{put_in, with_watch}

pub get_push : {A : Type 0} (xs : List A) (y : A) (k : ℕ) (x : A) → slice_get (xs ++ (y ∷ [])) k ≡ Some x → ((slice_get xs k ≡ Some x) × (k < length xs)) ⊎ ((k ≡ length xs) × (x ≡ y))
get_push [] y zero x h = inr (refl, cc)
get_push [] y (suc k) x h = absurd cc
get_push (a ∷ xs) y zero x h = inl (h, omega arith)
get_push (a ∷ xs) y (suc k) x h = elim (get_push xs y k x h) [ inl p ↦ inl (p.0, omega (arith, p.1)) | inr p ↦ inr (ap suc p.0, p.1) ]

pub get_lt : {A : Type 0} (xs : List A) (k : ℕ) (x : A) → slice_get xs k ≡ Some x → k < length xs
get_lt [] k x h = absurd cc
get_lt (a ∷ xs) zero x h = omega arith
get_lt (a ∷ xs) (suc k) x h = let q = get_lt xs k x h in omega (arith, q)

read_old : (xs : List Watch) (y d : Watch) (k : ℕ) → k < length xs → get_or (xs ++ (y ∷ [])) k d ≡ get_or xs k d
read_old [] y d k lt = absurd (omega arith)
read_old (x ∷ xs) y d zero lt = refl
read_old (x ∷ xs) y d (suc k) lt = read_old xs y d k (omega (arith, lt))

read_new : (xs : List Watch) (y d : Watch) (k : ℕ) → k ≡ length xs → get_or (xs ++ (y ∷ [])) k d ≡ y
read_new [] y d zero e = refl
read_new [] y d (suc k) e = absurd (omega (arith, e))
read_new (x ∷ xs) y d zero e = absurd (omega (arith, e))
read_new (x ∷ xs) y d (suc k) e = read_new xs y d k (omega (arith, e))

module _ (xs : List Watch) (w : Watch) (k : ℕ) where
  pub first_old : k < length xs → first_of (xs ++ (w ∷ [])) k ≡ first_of xs k
  first_old lt = ap (λ (z : Watch). z.first) (read_old xs w none_watched k lt)

  pub second_old : k < length xs → second_of (xs ++ (w ∷ [])) k ≡ second_of xs k
  second_old lt = ap (λ (z : Watch). z.second) (read_old xs w none_watched k lt)

  pub pair_old : k < length xs → pair_of (xs ++ (w ∷ [])) k ≡ pair_of xs k
  pair_old lt = ap (λ (z : Watch). z.pair) (read_old xs w none_watched k lt)

  pub pair_new : k ≡ length xs → pair_of (xs ++ (w ∷ [])) k ≡ w.pair
  pair_new e = ap (λ (z : Watch). z.pair) (read_new xs w none_watched k e)

  pub first_new : k ≡ length xs → first_of (xs ++ (w ∷ [])) k ≡ w.first
  first_new e = ap (λ (z : Watch). z.first) (read_new xs w none_watched k e)

  pub second_new : k ≡ length xs → second_of (xs ++ (w ∷ [])) k ≡ w.second
  second_new e = ap (λ (z : Watch). z.second) (read_new xs w none_watched k e)

-- a clause is put into one list
module _ (lists : List (List ℕ)) (y m : ℕ) where
  put_length : length (put_in lists y m) ≡ length lists
  put_length = length-set lists y (get_or lists y [] ++ (m ∷ []))

  put_grow : (x k : ℕ) → y < length lists → lists_in lists x k ≡ true → lists_in (put_in lists y m) x k ≡ true
  put_grow x k lt h = elim (cases_eq x y) [
    | inl e ↦ subst (λ z. lists_in (put_in lists y m) z k ≡ true) (sym e) (subst (λ z. listed z k ≡ true) (sym (get_or-set_same lists y (get_or lists y [] ++ (m ∷ [])) [] lt)) (listed_left (get_or lists y []) (m ∷ []) k (subst (λ z. lists_in lists z k ≡ true) e h)))
    | inr n ↦ subst (λ z. listed z k ≡ true) (sym (get_or-set_other lists y x (get_or lists y [] ++ (m ∷ [])) [] n)) h
  ]

  put_here : y < length lists → lists_in (put_in lists y m) y m ≡ true
  put_here lt = subst (λ z. listed z m ≡ true) (sym (get_or-set_same lists y (get_or lists y [] ++ (m ∷ [])) [] lt)) (listed_last (get_or lists y []) m)

  put_back : (x k : ℕ) → y < length lists → lists_in (put_in lists y m) x k ≡ true → (lists_in lists x k ≡ true) ⊎ (k ≡ m)
  put_back x k lt h = elim (cases_eq x y) [
    | inl e ↦ (let h2 : listed (get_or lists y [] ++ (m ∷ [])) k ≡ true = subst (λ z. listed z k ≡ true) (get_or-set_same lists y (get_or lists y [] ++ (m ∷ [])) [] lt) (subst (λ z. lists_in (put_in lists y m) z k ≡ true) e h) in
        elim (listed_append (get_or lists y []) (m ∷ []) k h2) [ inl b ↦ inl (subst (λ z. lists_in lists z k ≡ true) (sym e) b) | inr b ↦ inr (sym (listed_one m k b)) ])
    | inr n ↦ inl (subst (λ z. listed z k ≡ true) (get_or-set_other lists y x (get_or lists y [] ++ (m ∷ [])) [] n) h)
  ]

module _ (lists : List (List ℕ)) (w : Watch) (m : ℕ) (lt : w.first < length lists) (lt2 : w.second < length lists) where
  second_in : w.second < length (put_in lists w.first m)
  second_in = omega (arith, lt2, put_length lists w.first m)

  pub with_length : length (with_watch lists w m) ≡ length lists
  with_length = go (nat_eq w.first w.second)
    where
      go : (b : Bool) → length (cond b lists (put_in (put_in lists w.first m) w.second m)) ≡ length lists
      go true = refl
      go false = put_length (put_in lists w.first m) w.second m ∙ put_length lists w.first m

  pub with_grow : (x k : ℕ) → lists_in lists x k ≡ true → lists_in (with_watch lists w m) x k ≡ true
  with_grow x k h = go (nat_eq w.first w.second)
    where
      go : (b : Bool) → lists_in (cond b lists (put_in (put_in lists w.first m) w.second m)) x k ≡ true
      go true = h
      go false = put_grow (put_in lists w.first m) w.second m x k second_in (put_grow lists w.first m x k lt h)

  pub with_first : nat_eq w.first w.second ≡ false → lists_in (with_watch lists w m) w.first m ≡ true
  with_first f = ap (λ b. lists_in (cond b lists (put_in (put_in lists w.first m) w.second m)) w.first m) f ∙ put_grow (put_in lists w.first m) w.second m w.first m second_in (put_here lists w.first m lt)

  pub with_second : nat_eq w.first w.second ≡ false → lists_in (with_watch lists w m) w.second m ≡ true
  with_second f = ap (λ b. lists_in (cond b lists (put_in (put_in lists w.first m) w.second m)) w.second m) f ∙ put_here (put_in lists w.first m) w.second m second_in

  pub with_back : (x k : ℕ) → lists_in (with_watch lists w m) x k ≡ true → (lists_in lists x k ≡ true) ⊎ (k ≡ m)
  with_back x k h = go (nat_eq w.first w.second) h
    where
      go : (b : Bool) → lists_in (cond b lists (put_in (put_in lists w.first m) w.second m)) x k ≡ true → (lists_in lists x k ≡ true) ⊎ (k ≡ m)
      go true h = inl h
      go false h = elim (put_back (put_in lists w.first m) w.second m x k second_in h) [ inl a ↦ put_back lists w.first m x k lt a | inr b ↦ inr b ]

-- two different literals are all of a list of two
pub two_all : (r : List ℕ) (a b : ℕ) → length r ≡ 2 → listed r a ≡ true → listed r b ≡ true → (a ≡ b → ⊥) → (z : ℕ) → listed r z ≡ true → (z ≡ a) ⊎ (z ≡ b)
two_all [] a b e ha hb n z h = absurd (omega (arith, e))
two_all (x ∷ []) a b e ha hb n z h = absurd (omega (arith, e))
two_all (x ∷ y ∷ w ∷ r) a b e ha hb n z h = absurd (omega (arith, e))
two_all (x ∷ y ∷ []) a b e ha hb n z h = elim (either z h) [
  | inl p ↦ elim (either a ha) [ inl q ↦ inl (sym p ∙ q) | inr q ↦ elim (either b hb) [ inl s ↦ inr (sym p ∙ s) | inr s ↦ absurd (n (sym q ∙ s)) ] ]
  | inr p ↦ elim (either a ha) [ inr q ↦ inl (sym p ∙ q) | inl q ↦ elim (either b hb) [ inr s ↦ inr (sym p ∙ s) | inl s ↦ absurd (n (sym q ∙ s)) ] ]
]
  where
    either : (k : ℕ) → listed (x ∷ y ∷ []) k ≡ true → (x ≡ k) ⊎ (y ≡ k)
    either k l = elim (or_cases (nat_eq x k) (nat_eq y k || false) l) [
      | inl p ↦ inl (eqb-true x k p)
      | inr p ↦ elim (or_cases (nat_eq y k) false p) [ inl q ↦ inr (eqb-true y k q) | inr q ↦ absurd (both_ways false refl q) ]
    ]
