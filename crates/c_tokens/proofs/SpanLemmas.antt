-- The longest and the shortest of a form.
use Rattle.std.proofs.Common.{◌≡◌, ℕ, zero, suc, ◌+◌, ◌≤◌, List, [], ◌∷◌, ◌++◌, length, take, drop, refl, sym, ◌∙◌, ap, subst, arith, Bool, true, false, cond, inl, inr}
use Rattle.std.specs.Prelude.{slice_index}
use Rattle.std.specs.List.{prefix_len}
use Rattle.std.proofs.lemmas.Bool.{cases_order}
use Rattle.std.proofs.lemmas.List.{take_at, take-append-drop}
use Rattle.c_tokens.specs.Spans.{Each, Begins, Longest, Shortest}

pub prefix_each : (p : ℕ → Bool) (xs : List ℕ) → Each p (take (prefix_len p xs) xs)
prefix_each p [] = tt
prefix_each p (x ∷ xs) = by_test (p x) refl (prefix_each p xs)
  where
    by_test : (t : Bool) → p x ≡ t → Each p (take (prefix_len p xs) xs) → Each p (take (cond t (1 + prefix_len p xs) 0) (x ∷ xs))
    by_test true e rest = let one : 1 + prefix_len p xs ≡ suc (prefix_len p xs) = omega arith in subst (λ (n : ℕ). Each p (take n (x ∷ xs))) (sym one) (e, rest)
    by_test false e rest = tt

pub each_prefix : (p : ℕ → Bool) (xs : List ℕ) (n : ℕ) → n ≤ length xs → Each p (take n xs) → n ≤ prefix_len p xs
each_prefix p xs zero le each = omega arith
each_prefix p [] (suc n) le each = absurd (omega arith)
each_prefix p (x ∷ xs) (suc n) le each = by_test (p x) each.0 (each_prefix p xs n (omega arith) each.1)
  where
    by_test : (t : Bool) → t ≡ true → n ≤ prefix_len p xs → suc n ≤ cond t (1 + prefix_len p xs) 0
    by_test true e below = omega arith
    by_test false e below = absurd (cc e)

pub each_append : (p : ℕ → Bool) (xs ys : List ℕ) → Each p xs → Each p ys → Each p (xs ++ ys)
each_append p [] ys left right = right
each_append p (x ∷ xs) ys left right = (left.0, each_append p xs ys left.1 right)

pub each_left : (p : ℕ → Bool) (xs ys : List ℕ) → Each p (xs ++ ys) → Each p xs
each_left p [] ys each = tt
each_left p (x ∷ xs) ys each = (each.0, each_left p xs ys each.1)

pub each_right : (p : ℕ → Bool) (xs ys : List ℕ) → Each p (xs ++ ys) → Each p ys
each_right p [] ys each = each
each_right p (x ∷ xs) ys each = each_right p xs ys each.1

-- where each of some bytes is of a class and the next is not, they are as far as the class goes
pub prefix_stops : (p : ℕ → Bool) (xs ys : List ℕ) → Each p xs → (ys ≡ [] → ⊥) → p (slice_index ys 0) ≡ false → prefix_len p (xs ++ ys) ≡ length xs
prefix_stops p [] [] each some stop = absurd (some refl)
prefix_stops p [] (y ∷ ys) each some stop = ap (λ (t : Bool). cond t (1 + prefix_len p ys) 0) stop
prefix_stops p (x ∷ xs) ys each some stop =
    let next : 1 + length xs ≡ suc (length xs) = omega arith in
    ap (λ (t : Bool). cond t (1 + prefix_len p (xs ++ ys)) 0) each.0 ∙ ap (λ (n : ℕ). 1 + n) (prefix_stops p xs ys each.1 some stop) ∙ next

pub prefix_whole : (p : ℕ → Bool) (xs : List ℕ) → Each p xs → prefix_len p xs ≡ length xs
prefix_whole p [] each = refl
prefix_whole p (x ∷ xs) each =
    let next : 1 + length xs ≡ suc (length xs) = omega arith in
    ap (λ (t : Bool). cond t (1 + prefix_len p xs) 0) each.0 ∙ ap (λ (n : ℕ). 1 + n) (prefix_whole p xs each.1) ∙ next

-- a form has one longest and one shortest
pub one_longest : (Form : List ℕ → Type 0) (xs : List ℕ) (m n : ℕ) → Longest Form xs m → Longest Form xs n → m ≡ n
one_longest Form xs m n a b = elim (cases_order m n) [
  | inl e ↦ e
  | inr other ↦ elim other [ inl lt ↦ absurd (a.most n lt b.there b.formed) | inr lt ↦ absurd (b.most m lt a.there a.formed) ]
]

pub one_shortest : (Form : List ℕ → Type 0) (xs : List ℕ) (m n : ℕ) → Shortest Form xs m → Shortest Form xs n → m ≡ n
one_shortest Form xs m n a b = elim (cases_order m n) [
  | inl e ↦ e
  | inr other ↦ elim other [ inl lt ↦ absurd (b.least m lt a.formed) | inr lt ↦ absurd (a.least n lt b.formed) ]
]

-- what bytes begin with is at their front
pub begun : (xs front : List ℕ) → Begins xs front → (length front ≤ length xs) × (take (length front) xs ≡ front)
begun xs front b =
    let long : length xs ≡ length front + length b.0 = ap length b.1 ∙ omega_append front b.0 in
    (omega arith, ap (λ (l : List ℕ). take (length front) l) b.1 ∙ take_at front b.0 (length front) refl)
  where
    omega_append : (s t : List ℕ) → length (s ++ t) ≡ length s + length t
    omega_append [] t = omega arith
    omega_append (x ∷ s) t = let e = omega_append s t in omega arith

pub begins_at : (xs : List ℕ) (n : ℕ) → Begins xs (take n xs)
begins_at xs n = (drop n xs, sym (take-append-drop n xs))
