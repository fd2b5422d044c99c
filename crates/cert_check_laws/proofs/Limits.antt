-- What the limit on literals cuts off.
use Rattle.std.proofs.Common.{◌≡◌, ℕ, zero, suc, ◌<◌, ◌≤◌, ◌⊎◌, inl, inr, List, [], ◌∷◌, take, refl, sym, ap, ◌∙◌, subst, arith}
use Rattle.prop.specs.declared.Lit.{Lit}
use Rattle.prop.specs.declared.BlastFail.TheVariants.{Over}
use Rattle.prop.specs.Logic.{count}
use Rattle.bit_gates.specs.Cut.{IsCutOff}

pub which : (a b : ℕ) → (a < b) ⊎ ((b < a) ⊎ (a ≡ b))
which zero zero = inr (inr refl)
which zero (suc b) = inl (omega arith)
which (suc a) zero = inr (inl (omega arith))
which (suc a) (suc b) = elim (which a b) [
  | inl less ↦ inl (omega (arith, less))
  | inr rest ↦ elim rest [
    | inl more ↦ inr (inl (omega (arith, more)))
    | inr same ↦ inr (inr (ap suc same))
  ]
]

count-front : (cs : List (List Lit)) (k : ℕ) → count (take k cs) ≤ count cs
count-front cs zero = omega arith
count-front [] (suc k) = omega arith
count-front (c ∷ cs) (suc k) = let rest = count-front cs k in omega arith

count-rises : (cs : List (List Lit)) (j k : ℕ) → j ≤ k → count (take j cs) ≤ count (take k cs)
count-rises cs zero k le = omega arith
count-rises cs (suc j) zero le = absurd (omega (arith, le))
count-rises [] (suc j) (suc k) le = omega arith
count-rises (c ∷ cs) (suc j) (suc k) le = let rest = count-rises cs j k (omega (arith, le)) in omega arith

-- clauses within the limit are not cut off
pub no_cut : (cs : List (List Lit)) (size : ℕ) → count cs ≤ 67108864 → IsCutOff cs (Over size) → ⊥
no_cut cs size within (left, cut, small) =
    let past : 67108864 < count (take (suc cut.kept) cs) = cut.cause.0.1 in
    let front = count-front cs (suc cut.kept) in
    omega arith

-- of two places at which clauses are cut off, neither is before the other
cut_before : (cs : List (List Lit)) (j k : ℕ) → j < k → 67108864 < count (take (suc j) cs) → count (take k cs) ≤ 67108864 → ⊥
cut_before cs j k less past small = let rises = count-rises cs (suc j) k (omega (arith, less)) in omega arith

-- clauses are cut off at one size
pub same_cut : (cs : List (List Lit)) (a b : ℕ) → IsCutOff cs (Over a) → IsCutOff cs (Over b) → a ≡ b
same_cut cs a b (left, one, small) (right, two, few) =
    let past : 67108864 < count (take (suc one.kept) cs) = one.cause.0.1 in
    let over : 67108864 < count (take (suc two.kept) cs) = two.cause.0.1 in
    let within : count (take one.kept cs) ≤ 67108864 = subst (λ (x : List (List Lit)). count x ≤ 67108864) one.stands small in
    let fits : count (take two.kept cs) ≤ 67108864 = subst (λ (x : List (List Lit)). count x ≤ 67108864) two.stands few in
    let size : a ≡ count (take (suc one.kept) cs) = one.cause.1 in
    let other : b ≡ count (take (suc two.kept) cs) = two.cause.1 in
    elim (which one.kept two.kept) [
      | inl less ↦ absurd (cut_before cs one.kept two.kept less past fits)
      | inr rest ↦ elim rest [
        | inl more ↦ absurd (cut_before cs two.kept one.kept more over within)
        | inr same ↦ size ∙ ap (λ (k : ℕ). count (take (suc k) cs)) same ∙ sym other
      ]
    ]
