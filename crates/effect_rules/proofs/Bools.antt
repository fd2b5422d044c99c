-- Lists of objects that have one in common.
use Rattle.std.proofs.Common.{◌≡◌, ℕ, Bool, true, false, ◌||◌, List, [], ◌∷◌, ◌++◌, refl, ap, ◌∙◌, sym}
use Rattle.std.specs.Prelude.{nat_eq}
use Rattle.std.specs.List.{list_any}
use Rattle.std.proofs.lemmas.Bool.{eqb-true, eqb-false, eq-eqb, ne_eqb}
use Rattle.c_typed.specs.Rules as r

-- the same number, from either side
pub eq_flip : (a b : ℕ) → nat_eq a b ≡ nat_eq b a
eq_flip a b = by (nat_eq a b) refl
  where
    by : (c : Bool) → c ≡ nat_eq a b → nat_eq a b ≡ nat_eq b a
    by true k = sym k ∙ sym (eq-eqb b a (sym (eqb-true a b (sym k))))
    by false k = sym k ∙ sym (ne_eqb b a (λ h. eqb-false a b (sym k) (sym h)))

pub or_assoc : (a b c : Bool) → (a || (b || c)) ≡ ((a || b) || c)
or_assoc true b c = refl
or_assoc false b c = refl

-- four tests, in another order
four : (a b c d : Bool) → ((a || b) || (c || d)) ≡ ((a || c) || (b || d))
four true b c d = refl
four false true true d = refl
four false true false d = refl
four false false c d = or_assoc c false d ∙ ap (λ z. z || d) (right c) ∙ refl
  where
    right : (x : Bool) → (x || false) ≡ x
    right true = refl
    right false = refl

pub any_append : {A : Type 0} (p : A → Bool) (xs ys : List A) → list_any p (xs ++ ys) ≡ (list_any p xs || list_any p ys)
any_append p [] ys = refl
any_append p (x ∷ xs) ys = ap (λ z. p x || z) (any_append p xs ys) ∙ or_assoc (p x) (list_any p xs) (list_any p ys)

pub meets_right : (xs ys zs : List ℕ) → r.meets xs (ys ++ zs) ≡ (r.meets xs ys || r.meets xs zs)
meets_right [] ys zs = refl
meets_right (x ∷ xs) ys zs =
    ap (λ z. z || r.meets xs (ys ++ zs)) (any_append (nat_eq x) ys zs)
    ∙ ap (λ z. (r.has ys x || r.has zs x) || z) (meets_right xs ys zs)
    ∙ four (r.has ys x) (r.has zs x) (r.meets xs ys) (r.meets xs zs)

-- what clashes with two parts together clashes with one of them
pub clash_left : (wa ra wb rb w rd : List ℕ) → r.clash (wa ++ wb) (ra ++ rb) w rd ≡ (r.clash wa ra w rd || r.clash wb rb w rd)
clash_left wa ra wb rb w rd =
    ap (λ z. z || r.meets w (ra ++ rb)) (any_append (r.has (w ++ rd)) wa wb)
    ∙ ap (λ z. (r.meets wa (w ++ rd) || r.meets wb (w ++ rd)) || z) (meets_right w ra rb)
    ∙ four (r.meets wa (w ++ rd)) (r.meets wb (w ++ rd)) (r.meets w ra) (r.meets w rb)

pub or_commutes : (a b : Bool) → (a || b) ≡ (b || a)
or_commutes true true = refl
or_commutes true false = refl
or_commutes false true = refl
or_commutes false false = refl

pub or_false : (a : Bool) → (a || false) ≡ a
or_false true = refl
or_false false = refl

meets_none : (ys : List ℕ) → r.meets ys [] ≡ false
meets_none [] = refl
meets_none (y ∷ ys) = meets_none ys

meets_one : (x : ℕ) (ys : List ℕ) → r.meets ys (x ∷ []) ≡ r.has ys x
meets_one x [] = refl
meets_one x (y ∷ ys) = ap (λ z. z || r.meets ys (x ∷ [])) (or_false (nat_eq y x) ∙ eq_flip y x) ∙ ap (λ z. nat_eq x y || z) (meets_one x ys)

-- an object in common is one from either side
pub meets_flip : (xs ys : List ℕ) → r.meets xs ys ≡ r.meets ys xs
meets_flip [] ys = sym (meets_none ys)
meets_flip (x ∷ xs) ys =
    ap (λ z. r.has ys x || z) (meets_flip xs ys) ∙ ap (λ z. z || r.meets ys xs) (sym (meets_one x ys)) ∙ sym (meets_right ys (x ∷ []) xs)

-- two parts clash whichever stands first
pub clash_flip : (wa ra wb rb : List ℕ) → r.clash wa ra wb rb ≡ r.clash wb rb wa ra
clash_flip wa ra wb rb =
    ap (λ z. z || r.meets wb ra) (meets_right wa wb rb)
    ∙ ap (λ z. (z || r.meets wa rb) || r.meets wb ra) (meets_flip wa wb)
    ∙ sym (or_assoc (r.meets wb wa) (r.meets wa rb) (r.meets wb ra))
    ∙ ap (λ z. r.meets wb wa || z) (or_commutes (r.meets wa rb) (r.meets wb ra))
    ∙ or_assoc (r.meets wb wa) (r.meets wb ra) (r.meets wa rb)
    ∙ ap (λ z. z || r.meets wa rb) (sym (meets_right wb wa ra))
