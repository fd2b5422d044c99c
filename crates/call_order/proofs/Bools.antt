-- Tests of lists.
use Rattle.std.proofs.Common.{◌≡◌, ℕ, zero, suc, ◌<◌, Bool, true, false, ◌||◌, List, [], ◌∷◌, ◌++◌, length, get_or, refl, ap, ◌∙◌, sym, arith}
use Rattle.std.specs.Prelude.{nat_eq, nat_lt, ◌&&◌, not}
use Rattle.std.specs.List.{list_any, list_all}
use Rattle.std.proofs.lemmas.Bool.{eqb-true, ltb-true}
use Rattle.std.proofs.Common.{eq-eqb}
use Rattle.c_typed.specs.Rules.{has}

pub and_first : (a b : Bool) → (a && b) ≡ true → a ≡ true
and_first true b h = refl
and_first false b h = h

pub and_second : (a b : Bool) → (a && b) ≡ true → b ≡ true
and_second true b h = h
and_second false true h = refl
and_second false false h = h

pub and_both : (a b : Bool) → a ≡ true → b ≡ true → (a && b) ≡ true
and_both a b p q = ap (λ z. z && b) p ∙ q

pub or_first : (a b : Bool) → a ≡ true → (a || b) ≡ true
or_first a b p = ap (λ z. z || b) p

pub or_second : (a b : Bool) → b ≡ true → (a || b) ≡ true
or_second true b p = refl
or_second false b p = p

pub true_is_not_false : (b : Bool) → b ≡ true → b ≡ false → ⊥
true_is_not_false b p q = cc

pub all_at : {A : Type 0} (p : A → Bool) (xs : List A) (i : ℕ) (d : A) → list_all p xs ≡ true → i < length xs → p (get_or xs i d) ≡ true
all_at p [] i d b h = absurd (omega (arith, h))
all_at p (x ∷ xs) zero d b h = and_first (p x) (list_all p xs) b
all_at p (x ∷ xs) (suc i) d b h = all_at p xs i d (and_second (p x) (list_all p xs) b) (omega (arith, h))

pub any_same : (n : ℕ) (p q : ℕ → Bool) (fs : List ℕ) → list_all (λ f. nat_lt f n) fs ≡ true → ((f : ℕ) → f < n → p f ≡ q f) → list_any p fs ≡ list_any q fs
any_same n p q [] b h = refl
any_same n p q (f ∷ fs) b h =
    ap (λ z. z || list_any p fs) (h f (ltb-true f n (and_first (nat_lt f n) _ b)))
    ∙ ap (λ z. q f || z) (any_same n p q fs (and_second (nat_lt f n) _ b) h)

pub any_more : (p q : ℕ → Bool) (fs : List ℕ) → ((f : ℕ) → p f ≡ true → q f ≡ true) → list_any p fs ≡ true → list_any q fs ≡ true
any_more p q [] h a = a
any_more p q (f ∷ fs) h a = by (any_more p q fs h) (p f) refl
  where
    by : (list_any p fs ≡ true → list_any q fs ≡ true) → (b : Bool) → b ≡ p f → (q f || list_any q fs) ≡ true
    by ih true e = or_first (q f) (list_any q fs) (h f (sym e))
    by ih false e = or_second (q f) (list_any q fs) (ih (ap (λ z. z || list_any p fs) e ∙ a))

pub has_head : (f : ℕ) (fs : List ℕ) → has (f ∷ fs) f ≡ true
has_head f fs = or_first (nat_eq f f) (list_any (nat_eq f) fs) (eq-eqb f f refl)

-- an element passes a test
pub any_in : (p : ℕ → Bool) (fs : List ℕ) (c : ℕ) → has fs c ≡ true → p c ≡ true → list_any p fs ≡ true
any_in p [] c h t = h
any_in p (f ∷ fs) c h t = by (λ k. any_in p fs c k t) (nat_eq c f) refl
  where
    by : (has fs c ≡ true → list_any p fs ≡ true) → (b : Bool) → b ≡ nat_eq c f → (p f || list_any p fs) ≡ true
    by ih true e = or_first (p f) (list_any p fs) (ap p (sym (eqb-true c f (sym e))) ∙ t)
    by ih false e = or_second (p f) (list_any p fs) (ih (ap (λ z. z || list_any (nat_eq c) fs) e ∙ h))

pub all_in : (p : ℕ → Bool) (fs : List ℕ) (c : ℕ) → list_all p fs ≡ true → has fs c ≡ true → p c ≡ true
all_in p [] c a h = absurd (true_is_not_false false h refl)
all_in p (f ∷ fs) c a h = by (all_in p fs c (and_second (p f) (list_all p fs) a)) (nat_eq c f) refl
  where
    by : (has fs c ≡ true → p c ≡ true) → (b : Bool) → b ≡ nat_eq c f → p c ≡ true
    by ih true e = ap p (eqb-true c f (sym e)) ∙ and_first (p f) (list_all p fs) a
    by ih false e = ih (ap (λ z. z || list_any (nat_eq c) fs) e ∙ h)

pub all_of : (q : ℕ → Bool) (fs : List ℕ) → ((c : ℕ) → has fs c ≡ true → q c ≡ true) → list_all q fs ≡ true
all_of q [] h = refl
all_of q (f ∷ fs) h =
    and_both (q f) (list_all q fs) (h f (has_head f fs)) (all_of q fs (λ c k. h c (or_second (nat_eq c f) (list_any (nat_eq c) fs) k)))

pub all_append : {A : Type 0} (p : A → Bool) (xs : List A) (x : A) → list_all p xs ≡ true → p x ≡ true → list_all p (xs ++ x ∷ []) ≡ true
all_append p [] x a h = and_both (p x) true h refl
all_append p (y ∷ xs) x a h = and_both (p y) (list_all p (xs ++ x ∷ [])) (and_first (p y) (list_all p xs) a) (all_append p xs x (and_second (p y) (list_all p xs) a) h)

pub not_true : (b : Bool) → not b ≡ true → b ≡ false
not_true true h = sym h
not_true false h = refl
