-- Literals and sets of literals.
use Rattle.std.proofs.Common.{◌≡◌, ℕ, Bool, true, false, not, cond, List, [], ◌∷◌, ◌++◌, Some, slice_get, zero, suc, ◌⊎◌, inl, inr, refl, sym, ap, ◌∙◌, subst}
use Rattle.std.proofs.lemmas.Bool.{and_parts, and_from, or_cases, or_left, or_right, eqb-true, eq-eqb, both_ways}
use Rattle.prop.specs.declared.Lit.{Lit}
use Rattle.prop.specs.Logic.{negated, lit_value}
use Rattle.prop.specs.Steps.{same_sign, same, has, Has, without, In}

pub sign-true : (a b : Bool) → same_sign a b ≡ true → a ≡ b
sign-true true b h = sym h
sign-true false true h = cc
sign-true false false h = refl

pub sign_refl : (a : Bool) → same_sign a a ≡ true
sign_refl true = refl
sign_refl false = refl

pub lit_path : (l m : Lit) → l.var ≡ m.var → l.positive ≡ m.positive → l ≡ m
lit_path l m p q = λ i. record { var = p i; positive = q i }

pub same-true : (l m : Lit) → same l m ≡ true → l ≡ m
same-true l m h =
    let p = and_parts _ _ h in
    lit_path l m (eqb-true _ _ p.0) (sign-true _ _ p.1)

pub same_refl : (l : Lit) → same l l ≡ true
same_refl l = and_from _ _ (eq-eqb l.var l.var refl) (sign_refl l.positive)

pub same-from : (l m : Lit) → l ≡ m → same l m ≡ true
same-from l m e = subst (λ x. same l x ≡ true) e (same_refl l)

pub lit_cases : (l m : Lit) → (l ≡ m) ⊎ (l ≡ m → ⊥)
lit_cases l m = go (same l m) refl
  where
    go : (b : Bool) → same l m ≡ b → (l ≡ m) ⊎ (l ≡ m → ⊥)
    go true e = inl (same-true l m e)
    go false e = inr (λ q. both_ways _ e (same-from l m q))

pub not-not : (b : Bool) → not (not b) ≡ b
not-not true = refl
not-not false = refl

pub not_self : (b : Bool) → b ≡ not b → ⊥
not_self true h = cc
not_self false h = cc

pub negated_twice : (l : Lit) → negated (negated l) ≡ l
negated_twice l = lit_path (negated (negated l)) l refl (not-not l.positive)

pub negated_ne : (l : Lit) → l ≡ negated l → ⊥
negated_ne l e = not_self l.positive (ap (λ (x : Lit). x.positive) e)

pub negated_swap : (l m : Lit) → negated l ≡ m → l ≡ negated m
negated_swap l m e = sym (negated_twice l) ∙ ap negated e

pub lit_value-negated : (v : ℕ → Bool) (l : Lit) → lit_value v (negated l) ≡ not (lit_value v l)
lit_value-negated v l = go l.positive
  where
    go : (b : Bool) → cond (not b) (v l.var) (not (v l.var)) ≡ not (cond b (v l.var) (not (v l.var)))
    go true = refl
    go false = sym (not-not _)

pub Has-cons : (m : Lit) (c : List Lit) (l : Lit) → Has (m ∷ c) l → (m ≡ l) ⊎ Has c l
Has-cons m c l h = elim (or_cases (same m l) (has c l) h) [ inl a ↦ inl (same-true m l a) | inr b ↦ inr b ]

pub Has-head : (m : Lit) (c : List Lit) → Has (m ∷ c) m
Has-head m c = or_left _ _ (same_refl m)

pub Has-tail : (m : Lit) (c : List Lit) (l : Lit) → Has c l → Has (m ∷ c) l
Has-tail m c l h = or_right _ _ h

pub Has-left : (c d : List Lit) (l : Lit) → Has c l → Has (c ++ d) l
Has-left [] d l h = absurd cc
Has-left (m ∷ c) d l h = elim (or_cases (same m l) (has c l) h) [ inl a ↦ or_left _ _ a | inr b ↦ or_right _ _ (Has-left c d l b) ]

pub Has-right : (c d : List Lit) (l : Lit) → Has d l → Has (c ++ d) l
Has-right [] d l h = h
Has-right (m ∷ c) d l h = or_right _ _ (Has-right c d l h)

pub Has-append : (c d : List Lit) (l : Lit) → Has (c ++ d) l → Has c l ⊎ Has d l
Has-append [] d l h = inr h
Has-append (m ∷ c) d l h =
    elim (or_cases (same m l) (has (c ++ d) l) h) [
      | inl a ↦ inl (or_left _ _ a)
      | inr b ↦
          elim (Has-append c d l b) [ inl x ↦ inl (or_right _ _ x) | inr y ↦ inr y ]
    ]

Has-without-step : (k m : Lit) (c : List Lit) (l : Lit) → (Has (without k c) l → Has c l × (l ≡ k → ⊥)) → (b : Bool) → same m k ≡ b → Has (cond b (without k c) (m ∷ without k c)) l → Has (m ∷ c) l × (l ≡ k → ⊥)
Has-without-step k m c l ih true e g = let r = ih g in (or_right _ _ r.0, r.1)
Has-without-step k m c l ih false e g = elim (or_cases (same m l) (has (without k c) l) g) [ inl a ↦ (or_left _ _ a, λ q. both_ways _ e (same-from m k (same-true m l a ∙ q))) | inr b ↦ (or_right _ _ (ih b).0, (ih b).1) ]

pub Has-without : (k : Lit) (c : List Lit) (l : Lit) → Has (without k c) l → Has c l × (l ≡ k → ⊥)
Has-without k [] l h = absurd cc
Has-without k (m ∷ c) l h = Has-without-step k m c l (Has-without k c l) (same m k) refl h

Has-kept-step : (k m : Lit) (c : List Lit) (l : Lit) → (Has c l → Has (without k c) l) → Has (m ∷ c) l → (l ≡ k → ⊥) → (b : Bool) → same m k ≡ b → Has (cond b (without k c) (m ∷ without k c)) l
Has-kept-step k m c l ih h n true e = elim (or_cases (same m l) (has c l) h) [ inl a ↦ absurd (n (sym (same-true m l a) ∙ same-true m k e)) | inr b ↦ ih b ]
Has-kept-step k m c l ih h n false e = elim (or_cases (same m l) (has c l) h) [ inl a ↦ or_left _ _ a | inr b ↦ or_right _ _ (ih b) ]

pub Has-kept : (k : Lit) (c : List Lit) (l : Lit) → Has c l → (l ≡ k → ⊥) → Has (without k c) l
Has-kept k [] l h n = absurd cc
Has-kept k (m ∷ c) l h n = Has-kept-step k m c l (λ g. Has-kept k c l g n) h n (same m k) refl

-- lists of clauses
pub In-left : (xs ys : List (List Lit)) (c : List Lit) → In xs c → In (xs ++ ys) c
In-left [] ys c h = absurd h
In-left (a ∷ xs) ys c h = elim h [ inl e ↦ inl e | inr t ↦ inr (In-left xs ys c t) ]

pub In-right : (xs ys : List (List Lit)) (c : List Lit) → In ys c → In (xs ++ ys) c
In-right [] ys c h = h
In-right (a ∷ xs) ys c h = inr (In-right xs ys c h)

pub In-append : (xs ys : List (List Lit)) (c : List Lit) → In (xs ++ ys) c → In xs c ⊎ In ys c
In-append [] ys c h = inr h
In-append (a ∷ xs) ys c h = elim h [ inl e ↦ inl (inl e) | inr t ↦ elim (In-append xs ys c t) [ inl x ↦ inl (inr x) | inr y ↦ inr y ] ]

pub In-get : (xs : List (List Lit)) (k : ℕ) (c : List Lit) → slice_get xs k ≡ Some c → In xs c
In-get [] k c h = absurd cc
In-get (a ∷ xs) zero c h = inl cc
In-get (a ∷ xs) (suc k) c h = inr (In-get xs k c h)
