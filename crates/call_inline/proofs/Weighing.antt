-- Weights over lists, and stretches of numbers.
use Rattle.std.proofs.Common.{◌≡◌, ℕ, ◌+◌, ◌-◌, ◌≤◌, min, List, [], ◌∷◌, ◌++◌, Some, suc, zero, slice_get, arith, ap, refl}
use Rattle.std.proofs.lemmas.Option.{none-some, same_Some}

-- the weights of all elements together
abbrev pub weigh : {X : Type 0} → (X → ℕ) → List X → ℕ
weigh f [] = 0
weigh f (x ∷ xs) = f x + weigh f xs

pub weigh-append : {X : Type 0} (f : X → ℕ) (xs ys : List X) → weigh f (xs ++ ys) ≡ weigh f xs + weigh f ys
weigh-append f [] ys = omega arith
weigh-append f (x ∷ xs) ys = let rest : weigh f (xs ++ ys) ≡ weigh f xs + weigh f ys = weigh-append f xs ys in omega (arith, rest)

pub one-there : {X : Type 0} (f : X → ℕ) (xs : List X) (k : ℕ) (x : X) → slice_get xs k ≡ Some x → f x ≤ weigh f xs
one-there f [] k x s = absurd (none-some x s)
one-there f (y ∷ ys) zero x s = let same : f y ≡ f x = ap f (same_Some y x s) in omega (arith, same)
one-there f (y ∷ ys) (suc k) x s = let rest : f x ≤ weigh f ys = one-there f ys k x s in omega (arith, rest)

pub two-there : {X : Type 0} (f : X → ℕ) (xs : List X) (j k : ℕ) (x y : X) → (j ≡ k → ⊥) → slice_get xs j ≡ Some x → slice_get xs k ≡ Some y → f x + f y ≤ weigh f xs
two-there f [] j k x y ne s t = absurd (none-some x s)
two-there f (z ∷ zs) zero zero x y ne s t = absurd (ne refl)
two-there f (z ∷ zs) zero (suc k) x y ne s t =
    let same : f z ≡ f x = ap f (same_Some z x s) in
    let rest : f y ≤ weigh f zs = one-there f zs k y t in
    omega (arith, same, rest)
two-there f (z ∷ zs) (suc j) zero x y ne s t =
    let same : f z ≡ f y = ap f (same_Some z y t) in
    let rest : f x ≤ weigh f zs = one-there f zs j x s in
    omega (arith, same, rest)
two-there f (z ∷ zs) (suc j) (suc k) x y ne s t =
    let rest : f x + f y ≤ weigh f zs = two-there f zs j k x y (λ e. ne (ap suc e)) s t in
    omega (arith, rest)

-- ---- Stretches of numbers

-- what a stretch weighs: its first number, and how many there are
abbrev pub Measure : Type 0
Measure = ℕ → ℕ → ℕ

-- two stretches, one behind the other, weigh what both do
pub record IsAdditive (m : Measure) : Type 0 where
  pub none : (at : ℕ) → m at 0 ≡ 0
  pub joined : (at a b : ℕ) → m at (a + b) ≡ m at a + m (at + a) b

-- how many numbers there are
abbrev pub count : Measure
count at n = n

-- whether a number is among them
abbrev pub within : ℕ → Measure
within x at n = min ((at + n) - x) 1 - min (at - x) 1

pub count-adds : IsAdditive count
count-adds = record { none = λ at. refl; joined = λ at a b. refl }

within-joined : (x at a b : ℕ) → within x at (a + b) ≡ within x at a + within x (at + a) b
within-joined x at a b = omega arith

within-none : (x at : ℕ) → within x at 0 ≡ 0
within-none x at = omega arith

pub within-adds : (x : ℕ) → IsAdditive (within x)
within-adds x = record { none = λ at. within-none x at; joined = λ at a b. within-joined x at a b }

pub within-here : (x : ℕ) → within x x 1 ≡ 1
within-here x = omega arith

pub within-one : (x at n : ℕ) → within x at n ≤ 1
within-one x at n = omega arith

pub within-behind : (x at n : ℕ) → at + n ≤ x → within x at n ≡ 0
within-behind x at n le = omega (arith, le)
