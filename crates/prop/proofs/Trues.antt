-- The true variables, as a sorted list.
use Rattle.std.proofs.Common.{◌≡◌, ℕ, ◌+◌, ◌<◌, ◌≤◌, length, List, [], ◌∷◌, arith, ap, sym, ◌∙◌, refl, zero, suc, get_or, Bool, true, false, ◌||◌, cond, nat_eq, nat_lt, sum_by, Ok, Err, Result, is_ok, inl, inr}
use Rattle.std.proofs.lemmas.Bool.{eq-eqb, or_left, or_right, false_from_ne_true, eqb-true, or_cases, cases_lt as order}
use Rattle.std.proofs.lemmas.List.Sums.{sum_by-cons}
use Rattle.std.specs.List.Sorted.{IsPermutation, IsBinarySearchResult, IsNonDecreasing}
use Rattle.std.proofs.lemmas.List.Sorted.{sum_by-IsPermutation, searched}
use Rattle.std.specs.Ordering.{nat_cmp}
use Rattle.prop.specs.Trues.{listed}

-- how often the number occurs
abbrev one : ℕ → ℕ → ℕ
one v x = cond (nat_eq x v) 1 0

listed_head : (b : Bool) (rest : Bool) (n : ℕ) → rest ≡ nat_lt 0 n → (b || rest) ≡ nat_lt 0 (cond b 1 0 + n)
listed_head true rest n h = sym (grind arith)
listed_head false rest n h = let e : 0 + n ≡ n = omega arith in h ∙ ap (nat_lt 0) (sym e)

listed_sum : (xs : List ℕ) (v : ℕ) → listed xs v ≡ nat_lt 0 (sum_by (one v) xs)
listed_sum [] v = refl
listed_sum (x ∷ xs) v = listed_head (nat_eq x v) (listed xs v) (sum_by (one v) xs) (listed_sum xs v) ∙ ap (nat_lt 0) (sym (sum_by-cons (one v) x xs))

pub listed_permuted : (xs ys : List ℕ) → IsPermutation xs ys → (v : ℕ) → listed ys v ≡ listed xs v
listed_permuted xs ys p v = listed_sum ys v ∙ ap (nat_lt 0) (sum_by-IsPermutation (one v) xs ys p) ∙ sym (listed_sum xs v)

listed_at : (xs : List ℕ) (v i : ℕ) → i < length xs → get_or xs i 0 ≡ v → listed xs v ≡ true
listed_at [] v i h e = absurd (omega arith)
listed_at (x ∷ xs) v zero h e = or_left _ _ (eq-eqb x v e)
listed_at (x ∷ xs) v (suc i) h e = let q : i < length xs = omega arith in or_right _ _ (listed_at xs v i q e)

listed_true : (xs : List ℕ) (v : ℕ) → listed xs v ≡ true → (i : ℕ) × (i < length xs) × (get_or xs i 0 ≡ v)
listed_true [] v h = absurd cc
listed_true (x ∷ xs) v h = elim (or_cases (nat_eq x v) (listed xs v) h) [
  | inl a ↦ (0, omega arith, eqb-true x v a)
  | inr b ↦ let (i, lt, e) = listed_true xs v b in (suc i, omega (arith, lt), e)
]

pub listed_searched : (xs : List ℕ) (v : ℕ) (r : Result ℕ ℕ) → IsBinarySearchResult (λ y. nat_cmp y v) xs r → IsNonDecreasing xs → is_ok r ≡ listed xs v
listed_searched xs v (Ok i) h up = let s = searched xs v (Ok i) h (λ a b le lt. up a b 0 le lt) in sym (listed_at xs v i s.0 s.1)
listed_searched xs v (Err i) h up =
    let s = searched xs v (Err i) h (λ a b le lt. up a b 0 le lt) in
    sym (false_from_ne_true (listed xs v) (λ t. none s.0 s.1 s.2 (listed_true xs v t)))
  where
    none : i ≤ length xs → ((k : ℕ) → k < i → get_or xs k 0 < v) → ((k : ℕ) → i ≤ k → k < length xs → v < get_or xs k 0) → ((k : ℕ) × (k < length xs) × (get_or xs k 0 ≡ v)) → ⊥
    none le below above (k, lt, e) = elim (order k i) [ inl a ↦ (let q = below k a in omega (arith, q, e)) | inr b ↦ (let q = above k b lt in omega (arith, q, e)) ]
