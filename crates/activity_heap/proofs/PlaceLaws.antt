-- Numbers that change their places in a list.
use Rattle.std.proofs.Common.{◌≡◌, ℕ, ◌+◌, ◌-◌, ◌<◌, ◌≤◌, Bool, true, false, ◌||◌, List, [], ◌∷◌, ◌++◌, zero, suc, ◌⊎◌, inl, inr, refl, sym, ap, ◌∙◌, subst, arith, nat_eq, length, get_or, set, length-set, get_or-set_same, get_or-set_other, take, drop, length-append}
use Rattle.std.proofs.lemmas.Bool.{both_ways, eqb-true, eq-eqb, or_cases, or_left, or_right, cases_eq, cases_lt}
use Rattle.prop.specs.Trues.{listed}
use Rattle.resolution_log.proofs.Places.{bool_same, listed_at, listed_true}
use Rattle.activity_heap.specs.Below.{AreBelow}

pub below_at : (n : ℕ) (xs : List ℕ) (i : ℕ) → AreBelow n xs → i < length xs → get_or xs i 0 < n
below_at n xs i b lt = b (get_or xs i 0) (listed_at xs (get_or xs i 0) i lt refl)

-- a number is written over another
pub set_listed : (xs : List ℕ) (i v q : ℕ) → listed (set xs i v) q ≡ true → (v ≡ q) ⊎ (listed xs q ≡ true)
set_listed xs i v q h = go (listed_true (set xs i v) q h)
  where
    go : (j : ℕ) × (j < length (set xs i v)) × (get_or (set xs i v) j 0 ≡ q) → (v ≡ q) ⊎ (listed xs q ≡ true)
    go (j, l, e) =
        let lt : j < length xs = omega (arith, l, length-set xs i v) in
        elim (cases_eq j i) [
          | inl p ↦ inl (sym (get_or-set_same xs i v 0 (subst (λ w. w < length xs) p lt)) ∙ subst (λ w. get_or (set xs i v) w 0 ≡ q) p e)
          | inr p ↦ inr (listed_at xs q j lt (sym (get_or-set_other xs i j v 0 p) ∙ e))
        ]

pub below_set : (n : ℕ) (xs : List ℕ) (i v : ℕ) → v < n → AreBelow n xs → AreBelow n (set xs i v)
below_set n xs i v lt b q h = elim (set_listed xs i v q h) [ inl e ↦ subst (λ w. w < n) e lt | inr a ↦ b q a ]

-- the same numbers, where one goes to the place of another, which goes to its place
module _ (xs : List ℕ) (i j v : ℕ) (lt : i < length xs) (lt2 : j < length xs) (ne : j ≡ i → ⊥) where
  abbrev o : ℕ
  o = get_or xs j 0

  after_i : get_or (set (set xs i o) j v) i 0 ≡ o
  after_i = get_or-set_other (set xs i o) j i v 0 (λ e. ne (sym e)) ∙ get_or-set_same xs i o 0 lt

  after_j : get_or (set (set xs i o) j v) j 0 ≡ v
  after_j = get_or-set_same (set xs i o) j v 0 (omega (arith, lt2, length-set xs i o))

  after : (k : ℕ) → (k ≡ i → ⊥) → (k ≡ j → ⊥) → get_or (set (set xs i o) j v) k 0 ≡ get_or xs k 0
  after k a b = get_or-set_other (set xs i o) j k v 0 b ∙ get_or-set_other xs i k o 0 a

  long : length (set (set xs i o) j v) ≡ length xs
  long = length-set (set xs i o) j v ∙ length-set xs i o

  to : (q : ℕ) → listed (set (set xs i o) j v) q ≡ true → listed (set xs i v) q ≡ true
  to q h = go (listed_true (set (set xs i o) j v) q h)
    where
      go : (k : ℕ) × (k < length (set (set xs i o) j v)) × (get_or (set (set xs i o) j v) k 0 ≡ q) → listed (set xs i v) q ≡ true
      go (k, l, e) = elim (cases_eq k j) [
        | inl p ↦ listed_at (set xs i v) q i (omega (arith, lt, length-set xs i v)) (get_or-set_same xs i v 0 lt ∙ sym after_j ∙ subst (λ w. get_or (set (set xs i o) j v) w 0 ≡ q) p e)
        | inr p ↦ elim (cases_eq k i) [
          | inl r ↦ listed_at (set xs i v) q j (omega (arith, lt2, length-set xs i v)) (get_or-set_other xs i j v 0 ne ∙ sym after_i ∙ subst (λ w. get_or (set (set xs i o) j v) w 0 ≡ q) r e)
          | inr r ↦ listed_at (set xs i v) q k (omega (arith, l, long, length-set xs i v)) (get_or-set_other xs i k v 0 r ∙ sym (after k r p) ∙ e)
        ]
      ]

  from : (q : ℕ) → listed (set xs i v) q ≡ true → listed (set (set xs i o) j v) q ≡ true
  from q h = go (listed_true (set xs i v) q h)
    where
      go : (k : ℕ) × (k < length (set xs i v)) × (get_or (set xs i v) k 0 ≡ q) → listed (set (set xs i o) j v) q ≡ true
      go (k, l, e) = elim (cases_eq k i) [
        | inl p ↦ listed_at (set (set xs i o) j v) q j (omega (arith, lt2, long)) (after_j ∙ sym (get_or-set_same xs i v 0 lt) ∙ subst (λ w. get_or (set xs i v) w 0 ≡ q) p e)
        | inr p ↦ (let e2 : get_or xs k 0 ≡ q = sym (get_or-set_other xs i k v 0 p) ∙ e in
            elim (cases_eq k j) [
              | inl r ↦ listed_at (set (set xs i o) j v) q i (omega (arith, lt, long)) (after_i ∙ subst (λ w. get_or xs w 0 ≡ q) r e2)
              | inr r ↦ listed_at (set (set xs i o) j v) q k (omega (arith, l, long, length-set xs i v)) (after k p r ∙ e2)
            ])
      ]

  pub exchanged : (q : ℕ) → listed (set (set xs i o) j v) q ≡ listed (set xs i v) q
  exchanged q = bool_same _ _ (to q) (from q)

-- the number that a place has is written there again
pub set_again : (xs : List ℕ) (i q : ℕ) → i < length xs → listed (set xs i (get_or xs i 0)) q ≡ listed xs q
set_again [] i q lt = absurd (omega arith)
set_again (x ∷ xs) zero q lt = refl
set_again (x ∷ xs) (suc i) q lt = ap (λ b. nat_eq x q || b) (set_again xs i q (omega (arith, lt)))

or_swap : (a b c : Bool) → (a || (b || c)) ≡ (b || (a || c))
or_swap true true c = refl
or_swap true false c = refl
or_swap false b c = refl

listed_push : (xs : List ℕ) (x q : ℕ) → listed (xs ++ (x ∷ [])) q ≡ (nat_eq x q || listed xs q)
listed_push [] x q = refl
listed_push (y ∷ xs) x q = ap (λ b. nat_eq y q || b) (listed_push xs x q) ∙ or_swap (nat_eq y q) (nat_eq x q) (listed xs q)

-- one more at the end
pub pushed : (xs ys : List ℕ) (x q : ℕ) → ys ≡ xs ++ (x ∷ []) → listed ys q ≡ (nat_eq x q || listed xs q)
pushed xs ys x q e = ap (λ w. listed w q) e ∙ listed_push xs x q

-- the last takes the place of the first
pub topped : (old xs : List ℕ) (last q : ℕ) → 0 < length xs → old ≡ xs ++ (last ∷ []) → listed old q ≡ (nat_eq (get_or xs 0 0) q || listed (set xs 0 last) q)
topped old [] last q lt e = absurd (omega (arith, lt))
topped old (x ∷ xs) last q lt e = pushed (x ∷ xs) old last q e ∙ or_swap (nat_eq last q) (nat_eq x q) (listed xs q)

-- the numbers so far and the next
pub pushed_all : (xs ys : List ℕ) (n : ℕ) → ys ≡ xs ++ (n ∷ []) → ((q : ℕ) → q < n → listed xs q ≡ true) → (q : ℕ) → q < n + 1 → listed ys q ≡ true
pushed_all xs ys n e h q lt = pushed xs ys n q e ∙ elim (cases_eq n q) [ inl p ↦ or_left _ _ (eq-eqb n q p) | inr p ↦ or_right _ _ (h q (less n q lt p)) ]
  where
    less : (n q : ℕ) → q < n + 1 → (n ≡ q → ⊥) → q < n
    less n q lt p = elim (cases_lt q n) [ inl a ↦ a | inr b ↦ absurd (p (omega (arith, lt, b))) ]

pub pushed_below : (xs ys : List ℕ) (n m v : ℕ) → ys ≡ xs ++ (v ∷ []) → v < m → n ≤ m → AreBelow n xs → AreBelow m ys
pushed_below xs ys n m v e lt le b q h = elim (or_cases (nat_eq v q) (listed xs q) (sym (pushed xs ys v q e) ∙ h)) [ inl p ↦ subst (λ w. w < m) (eqb-true v q p) lt | inr p ↦ (let r = b q p in omega (arith, r, le)) ]

-- what a slice that was lent leaves
pub lent : {A : Type 0} (n : ℕ) (new old : List A) → length new ≡ length old → n ≡ length old → take n (new ++ drop (length new) old) ≡ new
lent n new old e f = take_front new (drop (length new) old) n (omega (arith, e, f))
  where
    take_front : {A : Type 0} (xs ys : List A) (n : ℕ) → n ≡ length xs → take n (xs ++ ys) ≡ xs
    take_front [] ys zero h = refl
    take_front [] ys (suc n) h = absurd (omega (arith, h))
    take_front (x ∷ xs) ys zero h = absurd (omega (arith, h))
    take_front (x ∷ xs) ys (suc n) h = ap (λ w. x ∷ w) (take_front xs ys n (omega (arith, h)))

-- a number that is there already
pub already : (xs : List ℕ) (v i : ℕ) → i < length xs → get_or xs i 0 ≡ v → (q : ℕ) → listed xs q ≡ (nat_eq v q || listed xs q)
already xs v i lt e q = bool_same _ _ (λ h. or_right _ _ h) (λ h. elim (or_cases (nat_eq v q) (listed xs q) h) [ inl p ↦ subst (λ w. listed xs w ≡ true) (eqb-true v q p) (listed_at xs v i lt e) | inr b ↦ b ])

pub popped_below : (n : ℕ) (old xs : List ℕ) (last : ℕ) → old ≡ xs ++ (last ∷ []) → AreBelow n old → AreBelow n (set xs 0 last)
popped_below n old xs last e b q h = b q (pushed xs old last q e ∙ elim (set_listed xs 0 last q h) [ inl p ↦ or_left _ _ (eq-eqb last q p) | inr a ↦ or_right _ _ a ])

pub popped_within : (n : ℕ) (old xs : List ℕ) (last : ℕ) → 0 < length xs → old ≡ xs ++ (last ∷ []) → AreBelow n old → get_or xs 0 0 < n
popped_within n old xs last lt e b = b (get_or xs 0 0) (topped old xs last (get_or xs 0 0) lt e ∙ or_left _ _ (eq-eqb (get_or xs 0 0) (get_or xs 0 0) refl))

pub last_within : (n : ℕ) (old xs : List ℕ) (last : ℕ) → old ≡ xs ++ (last ∷ []) → AreBelow n old → last < n
last_within n old xs last e b = b last (pushed xs old last last e ∙ or_left _ _ (eq-eqb last last refl))
