-- What stands in a list.
use Rattle.std.proofs.Common.{◌≡◌, ℕ, ◌+◌, ◌<◌, length, List, [], ◌∷◌, ◌++◌, Option, Some, None, map, arith, ap, sym, subst, refl, suc, zero, slice_get, ◌⊎◌, inl, inr}
use Rattle.std.specs.List.{All}
use Rattle.std.proofs.lemmas.List.Elements.{All-head, All-tail}
use Rattle.std.proofs.lemmas.Option.{none-some, same_Some}
use Rattle.c_graph.specs.declared.graph.Node.{Node}
use Rattle.call_inline.specs.Inlining.{Among}
use Rattle.call_inline.specs.Copying.{each_from}

pub among-front : {X : Type 0} → (xs ys : List X) (x : X) → Among xs x → Among (xs ++ ys) x
among-front [] ys x (k, s) = absurd (cc)
among-front (z ∷ xs) ys x (zero, s) = (zero, s)
among-front (z ∷ xs) ys x (suc k, s) = let (j, t) = among-front xs ys x (k, s) in (suc j, t)

pub among-back : {X : Type 0} → (xs ys : List X) (x : X) → Among ys x → Among (xs ++ ys) x
among-back [] ys x a = a
among-back (z ∷ xs) ys x a = let (j, t) = among-back xs ys x a in (suc j, t)

pub among-map : {X : Type 0} → {Y : Type 0} → (f : X → Y) (xs : List X) (x : X) → Among xs x → Among (map f xs) (f x)
among-map f [] x (k, s) = absurd (cc)
among-map f (z ∷ xs) x (zero, s) = let e : z ≡ x = cc in (zero, ap (λ y. Some (f y)) e)
among-map f (z ∷ xs) x (suc k, s) = let (j, t) = among-map f xs x (k, s) in (suc j, t)

-- a place that is there is the same in a longer list
pub get-front : {X : Type 0} → (xs ys : List X) (k : ℕ) → k < length xs → slice_get (xs ++ ys) k ≡ slice_get xs k
get-front [] ys k lt = absurd (omega arith)
get-front (x ∷ xs) ys zero lt = refl
get-front (x ∷ xs) ys (suc k) lt = get-front xs ys k (omega (arith, lt))

pub get-there : {X : Type 0} → (xs : List X) (k : ℕ) → k < length xs → (x : X) × (slice_get xs k ≡ Some x)
get-there [] k lt = absurd (omega arith)
get-there (x ∷ xs) zero lt = (x, refl)
get-there (x ∷ xs) (suc k) lt = get-there xs k (omega (arith, lt))

pub some_or_none : {X : Type 0} → (o : Option X) → (o ≡ None) ⊎ ((x : X) × (o ≡ Some x))
some_or_none None = inl refl
some_or_none (Some x) = inr (x, refl)

pub among-either : {X : Type 0} (xs ys : List X) (x : X) → Among (xs ++ ys) x → Among xs x ⊎ Among ys x
among-either [] ys x a = inr a
among-either (z ∷ xs) ys x (zero, s) = inl (zero, s)
among-either (z ∷ xs) ys x (suc k, s) = elim (among-either xs ys x (k, s)) [ inl a ↦ inl (suc a.0, a.1) | inr b ↦ inr b ]

pub from-map : {X : Type 0} {Y : Type 0} (f : X → Y) (xs : List X) (y : Y) → Among (map f xs) y → (x : X) × Among xs x × (y ≡ f x)
from-map f [] y (k, s) = absurd (none-some y s)
from-map f (z ∷ xs) y (zero, s) = (z, (zero, refl), sym (same_Some (f z) y s))
from-map f (z ∷ xs) y (suc k, s) = let (x, a, e) = from-map f xs y (k, s) in (x, (suc a.0, a.1), e)

-- a node that gives it
pub from-each : {X : Type 0} (f : ℕ → Node → List X) (n : ℕ) (xs : List Node) (y : X) → Among (each_from f n xs) y → (k : ℕ) × (x : Node) × (slice_get xs k ≡ Some x) × Among (f (n + k) x) y
from-each f n [] y (k, s) = absurd (none-some y s)
from-each f n (z ∷ xs) y a = elim (among-either (f n z) (each_from f (n + 1) xs) y a) [
  | inl b ↦ let o : n ≡ n + 0 = omega arith in (0, z, refl, subst (λ (m : ℕ). Among (f m z) y) o b)
  | inr b ↦
      let (k, x, s, g) = from-each f (n + 1) xs y b in
      let o : (n + 1) + k ≡ n + suc k = omega arith in
      (suc k, x, s, subst (λ (m : ℕ). Among (f m x) y) o g)
]

-- what holds of all holds of each
pub all-there : {A : Type 0} (P : A → Type 0) (xs : List A) (k : ℕ) (x : A) → All P xs → slice_get xs k ≡ Some x → P x
all-there P [] k x h e = absurd (none-some x e)
all-there P (y ∷ ys) zero x h e = subst P (same_Some y x e) (All-head P y ys h)
all-there P (y ∷ ys) (suc k) x h e = all-there P ys k x (All-tail P y ys h) e
