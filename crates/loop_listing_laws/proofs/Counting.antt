-- How often an offset is among others.
use Rattle.std.proofs.Common.{◌≡◌, ◌⊎◌, inl, inr, ℕ, zero, suc, ◌+◌, ◌≤◌, ◌<◌, Bool, true, false, List, [], ◌∷◌, ◌++◌, refl, sym, ap, ◌∙◌, subst, arith}
use Rattle.std.specs.Prelude.{nat_eq}
use Rattle.std.proofs.lemmas.Bool.{eq-eqb, eqb-true}
use Rattle.call_order.specs.Order.{bit, times}

pub times-both : (x : ℕ) (xs ys : List ℕ) → times x (xs ++ ys) ≡ times x xs + times x ys
times-both x [] ys = omega arith
times-both x (y ∷ xs) ys = let h = times-both x xs ys in omega (arith, h)

pub times-here : (x : ℕ) (xs : List ℕ) → times x (x ∷ xs) ≡ 1 + times x xs
times-here x xs = ap (λ (b : Bool). bit b + times x xs) (eq-eqb x x refl)

-- one more is this or another one
pub times-one : (x y : ℕ) (xs : List ℕ) → ((y ≡ x) × (times x (y ∷ xs) ≡ 1 + times x xs)) ⊎ ((y ≡ x → ⊥) × (times x (y ∷ xs) ≡ times x xs))
times-one x y xs = by (nat_eq x y) refl
  where
    by : (b : Bool) → nat_eq x y ≡ b → ((y ≡ x) × (times x (y ∷ xs) ≡ 1 + times x xs)) ⊎ ((y ≡ x → ⊥) × (times x (y ∷ xs) ≡ times x xs))
    by true e = inl (sym (eqb-true x y e), ap (λ (b : Bool). bit b + times x xs) e)
    by false e = inr ((λ is. absurd (not-both (sym e ∙ eq-eqb x y (sym is)))), (let h : times x (y ∷ xs) ≡ 0 + times x xs = ap (λ (b : Bool). bit b + times x xs) e in omega (arith, h)))
      where
        not-both : false ≡ true → ⊥
        not-both q = absurd cc

pub times-other : (x y : ℕ) (xs : List ℕ) → (y ≡ x → ⊥) → times x (y ∷ xs) ≡ times x xs
times-other x y xs other = elim (times-one x y xs) [ inl h ↦ absurd (other h.0) | inr h ↦ h.1 ]

-- one of two is there
pub some-of : (m n : ℕ) → 1 ≤ m + n → (1 ≤ m) ⊎ (1 ≤ n)
some-of zero n h = inr (omega (arith, h))
some-of (suc m) n h = inl (omega arith)
