-- Sums and least values over a list of which one element changes, one is added, or two become one.
use Rattle.std.proofs.Common.{◌≡◌, ℕ, zero, suc, ◌+◌, ◌<◌, ◌≤◌, ◌≢◌, min, List, [], ◌∷◌, ◌++◌, set, sym, refl, ap, arith}
use mathlib.Core.Option.{some, some-injective, some-ne-none}
use lib.ListN.{get_elem?}
use Rattle.std.proofs.lemmas.Bool.Decides.{nat_tests}
use Rattle.std.proofs.lemmas.List.Elements.{All-weaker, All-append}
use Rattle.work_claims.specs.Counts.{times, once_below, least, total_of, least_of, Among}

pub times-append : (x : ℕ) (ys zs : List ℕ) → times x (ys ++ zs) ≡ times x ys + times x zs
times-append x [] zs = omega arith
times-append x (y ∷ ys) zs = let r = times-append x ys zs in omega arith

pub times-last : (x : ℕ) (ys : List ℕ) → 0 < times x (ys ++ x ∷ [])
times-last x [] = grind (arith, nat_tests)
times-last x (y ∷ ys) = let r = times-last x ys in omega arith

pub least-bound : (xs : List ℕ) → least xs ≤ 4294967295
least-bound [] = omega arith
least-bound (x ∷ xs) = let r = least-bound xs in omega arith

pub least-append : (xs ys : List ℕ) → least (xs ++ ys) ≡ min (least xs) (least ys)
least-append [] ys = let b = least-bound ys in omega arith
least-append (x ∷ xs) ys = let r = least-append xs ys in omega arith

pub among_longer : (xs ys zs : List ℕ) → Among xs ys → Among xs (ys ++ zs)
among_longer xs ys zs h = All-weaker (λ x. 0 < times x ys) (λ x. 0 < times x (ys ++ zs)) (λ x p. let r = times-append x ys zs in omega arith) xs h

pub among_after : (xs ys zs : List ℕ) → Among xs zs → Among xs (ys ++ zs)
among_after xs ys zs h = All-weaker (λ x. 0 < times x zs) (λ x. 0 < times x (ys ++ zs)) (λ x p. let r = times-append x ys zs in omega arith) xs h

pub among_both : (xs ys us ws : List ℕ) → Among xs us → Among ys ws → Among (xs ++ ys) (us ++ ws)
among_both xs ys us ws h k = All-append (λ x. 0 < times x (us ++ ws)) xs ys (among_longer xs us ws h) (among_after ys us ws k)

-- the numbers below n, and n
pub once_below-suc : (x n : ℕ) → once_below x (n + 1) ≡ times x (n ∷ []) + once_below x n
once_below-suc x n = grind (arith, nat_tests)

module _ {X : Type 0} (f : X → ℕ) where
  pub total-set : (l : List X) (i : ℕ) (v w : X) → get_elem? l i ≡ some v → total_of f (set l i w) + f v ≡ total_of f l + f w
  total-set [] i v w e = absurd (some-ne-none v (sym e))
  total-set (x ∷ xs) zero v w e = let is : f x ≡ f v = ap f (some-injective x v e) in omega arith
  total-set (x ∷ xs) (suc i) v w e = let r = total-set xs i v w e in omega arith

  pub total-snoc : (l : List X) (w : X) → total_of f (l ++ w ∷ []) ≡ total_of f l + f w
  total-snoc [] w = omega arith
  total-snoc (x ∷ xs) w = let r = total-snoc xs w in omega arith

  pub total-at : (l : List X) (i : ℕ) (v : X) → get_elem? l i ≡ some v → f v ≤ total_of f l
  total-at [] i v e = absurd (some-ne-none v (sym e))
  total-at (x ∷ xs) zero v e = let is : f x ≡ f v = ap f (some-injective x v e) in omega arith
  total-at (x ∷ xs) (suc i) v e = let r = total-at xs i v e in omega arith

  pub least_of-bound : (l : List X) → least_of f l ≤ 4294967295
  least_of-bound [] = omega arith
  least_of-bound (x ∷ xs) = let r = least_of-bound xs in omega arith

  pub least_of-at : (l : List X) (i : ℕ) (v : X) → get_elem? l i ≡ some v → least_of f l ≤ f v
  least_of-at [] i v e = absurd (some-ne-none v (sym e))
  least_of-at (x ∷ xs) zero v e = let is : f x ≡ f v = ap f (some-injective x v e) in omega arith
  least_of-at (x ∷ xs) (suc i) v e = let r = least_of-at xs i v e in omega arith

  pub least_of-set : (l : List X) (i : ℕ) (v w : X) (n : ℕ) → get_elem? l i ≡ some v → f w ≡ min (f v) n → least_of f (set l i w) ≡ min (least_of f l) n
  least_of-set [] i v w n e h = absurd (some-ne-none v (sym e))
  least_of-set (x ∷ xs) zero v w n e h = let is : f x ≡ f v = ap f (some-injective x v e) in omega arith
  least_of-set (x ∷ xs) (suc i) v w n e h = let r = least_of-set xs i v w n e h in omega arith

  pub least_of-same : (l : List X) (i : ℕ) (v w : X) → get_elem? l i ≡ some v → f w ≡ f v → least_of f (set l i w) ≡ least_of f l
  least_of-same [] i v w e h = absurd (some-ne-none v (sym e))
  least_of-same (x ∷ xs) zero v w e h = let is : f x ≡ f v = ap f (some-injective x v e) in omega arith
  least_of-same (x ∷ xs) (suc i) v w e h = let r = least_of-same xs i v w e h in omega arith

  pub least_of-snoc : (l : List X) (w : X) → least_of f (l ++ w ∷ []) ≡ min (least_of f l) (f w)
  least_of-snoc [] w = omega arith
  least_of-snoc (x ∷ xs) w = let r = least_of-snoc xs w in omega arith

  -- the element at i hands its value on
  pub least_of-out : (l : List X) (i : ℕ) (v z : X) → get_elem? l i ≡ some v → f z ≡ 4294967295 → min (f v) (least_of f (set l i z)) ≡ least_of f l
  least_of-out [] i v z e h = absurd (some-ne-none v (sym e))
  least_of-out (x ∷ xs) zero v z e h = let is : f x ≡ f v = ap f (some-injective x v e) in let b = least_of-bound xs in omega arith
  least_of-out (x ∷ xs) (suc i) v z e h = let r = least_of-out xs i v z e h in omega arith

  -- the element at i takes over the value of the one at j
  pub least_of-join : (l : List X) (i j : ℕ) (v w b z : X) → get_elem? l i ≡ some v → get_elem? l j ≡ some w → j ≢ i → f b ≡ min (f v) (f w) → f z ≡ 4294967295
      → least_of f (set (set l i b) j z) ≡ least_of f l
  least_of-join [] i j v w b z e k ne h s = absurd (some-ne-none v (sym e))
  least_of-join (x ∷ xs) zero zero v w b z e k ne h s = absurd (ne refl)
  least_of-join (x ∷ xs) zero (suc j) v w b z e k ne h s = let is : f x ≡ f v = ap f (some-injective x v e) in let r = least_of-out xs j w z k s in omega arith
  least_of-join (x ∷ xs) (suc i) zero v w b z e k ne h s = let is : f x ≡ f w = ap f (some-injective x w k) in let r = least_of-set xs i v b (f w) e h in let l = least_of-bound (set xs i b) in omega arith
  least_of-join (x ∷ xs) (suc i) (suc j) v w b z e k ne h s = let r = least_of-join xs i j v w b z e k (λ q. ne (ap suc q)) h s in omega arith

  pub total-join : (l : List X) (i j : ℕ) (v w b z : X) → get_elem? l i ≡ some v → get_elem? (set l i b) j ≡ some w → f b ≡ f v + f w → f z ≡ 0
      → total_of f (set (set l i b) j z) ≡ total_of f l
  total-join l i j v w b z e k h s = let p = total-set l i v b e in let q = total-set (set l i b) j w z k in omega arith
