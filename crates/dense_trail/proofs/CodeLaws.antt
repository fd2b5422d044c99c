-- Codes and their negations.
use Rattle.std.proofs.Common.{◌≡◌, ℕ, ◌+◌, ◌-◌, ◌*◌, ◌/◌, ◌%◌, ◌<◌, ◌≤◌, Bool, true, false, cond, not, ◌⊎◌, inl, inr, refl, sym, ap, ◌∙◌, subst, arith, nat_eq, length, List, get_or}
use Rattle.std.proofs.lemmas.Bool.{cases_Bool, both_ways, eqb-true, eq-eqb, ne_eqb, false_from_ne_true}
use Rattle.std.specs.List.Sorted.{IsStrictlyIncreasing}
use Rattle.prop.specs.declared.Lit.{Lit}
use Rattle.prop.specs.Logic.{negated}
use Rattle.resolution_log.specs.Codes.{place, code_of}
use Rattle.resolution_log.proofs.Places.{place_at, code_inj}
use Rattle.dense_trail.specs.Dense.{negation, lit_at}

half_cases : (k : ℕ) → (k % 2 ≡ 0) ⊎ (k % 2 ≡ 1)
half_cases k = grind arith

even : (k : ℕ) → k % 2 ≡ 0 → negation k ≡ k + 1
even k h = ap (λ b. cond b (k + 1) (k - 1)) (eq-eqb (k % 2) 0 h)

odd : (k : ℕ) → k % 2 ≡ 1 → negation k ≡ k - 1
odd k h = ap (λ b. cond b (k + 1) (k - 1)) (ne_eqb (k % 2) 0 (λ e. absurd (omega (arith, e, h))))

pub negation_half : (k : ℕ) → negation k / 2 ≡ k / 2
negation_half k = elim (half_cases k) [ inl a ↦ ap (λ n. n / 2) (even k a) ∙ omega (arith, a) | inr b ↦ ap (λ n. n / 2) (odd k b) ∙ omega (arith, b) ]

pub negation_twice : (k : ℕ) → negation (negation k) ≡ k
negation_twice k = elim (half_cases k) [
  | inl a ↦ (let q : (k + 1) % 2 ≡ 1 = omega (arith, a) in ap negation (even k a) ∙ odd (k + 1) q ∙ omega arith)
  | inr b ↦ (let q : (k - 1) % 2 ≡ 0 = omega (arith, b) in ap negation (odd k b) ∙ even (k - 1) q ∙ omega (arith, b))
]

pub negation_ne : (k : ℕ) → negation k ≡ k → ⊥
negation_ne k e = elim (half_cases k) [ inl a ↦ absurd (omega (arith, even k a, e)) | inr b ↦ absurd (omega (arith, odd k b, e, b)) ]

pub negation_below : (k n : ℕ) → k < 2 * n → negation k < 2 * n
negation_below k n lt = elim (half_cases k) [ inl a ↦ omega (arith, even k a, a, lt) | inr b ↦ omega (arith, odd k b, lt) ]

pub half_below : (k n : ℕ) → k < 2 * n → k / 2 < n
half_below k n lt = omega (arith, lt)

pub negation_swap : (j k : ℕ) → negation j ≡ k → j ≡ negation k
negation_swap j k e = sym (negation_twice j) ∙ ap negation e

-- codes of one variable
pub same_half : (j k : ℕ) → j / 2 ≡ k / 2 → (j ≡ k) ⊎ (j ≡ negation k)
same_half j k h = elim (half_cases j) [
  | inl a ↦ elim (half_cases k) [ inl b ↦ inl (omega (arith, a, b, h)) | inr b ↦ inr (omega (arith, odd k b, a, b, h)) ]
  | inr a ↦ elim (half_cases k) [ inl b ↦ inr (omega (arith, even k b, a, b, h)) | inr b ↦ inl (omega (arith, a, b, h)) ]
]

signed : (n : ℕ) (b : Bool) → cond (not b) 0 1 + 2 * n ≡ negation (2 * n + cond b 0 1)
signed n true = let q : (2 * n + 0) % 2 ≡ 0 = omega arith in omega (arith, even (2 * n + 0) q)
signed n false = let q : (2 * n + 1) % 2 ≡ 1 = omega arith in omega (arith, odd (2 * n + 1) q)

pub code_negated : (vars : List ℕ) (l : Lit) → code_of vars (negated l) ≡ negation (code_of vars l)
code_negated vars l = let q = signed (place vars l.var) l.positive in omega (arith, q)

sign_at : (k : ℕ) → cond (nat_eq (k % 2) 0) 0 1 ≡ k % 2
sign_at k = elim (half_cases k) [ inl a ↦ ap (λ b. cond b 0 1) (eq-eqb (k % 2) 0 a) ∙ sym a | inr a ↦ ap (λ b. cond b 0 1) (ne_eqb (k % 2) 0 (λ e. absurd (omega (arith, e, a)))) ∙ sym a ]

-- the literal of a code has that code
pub code_at : (vars : List ℕ) (k : ℕ) → IsStrictlyIncreasing vars → k < 2 * length vars → code_of vars (lit_at vars k) ≡ k
code_at vars k up lt =
    let p = place_at vars up (k / 2) (get_or vars (k / 2) 0) (half_below k (length vars) lt) refl in
    let q = sign_at k in
    omega (arith, p, q)

pub lit_code : (vars : List ℕ) (l : Lit) → IsStrictlyIncreasing vars → code_of vars l < 2 * length vars → lit_at vars (code_of vars l) ≡ l
lit_code vars l up lt = code_inj vars (lit_at vars (code_of vars l)) l (code_at vars (code_of vars l) up lt)

pub lit_negation : (vars : List ℕ) (k : ℕ) → IsStrictlyIncreasing vars → k < 2 * length vars → lit_at vars (negation k) ≡ negated (lit_at vars k)
lit_negation vars k up lt = code_inj vars (lit_at vars (negation k)) (negated (lit_at vars k)) (code_at vars (negation k) up (negation_below k (length vars) lt) ∙ sym (code_negated vars (lit_at vars k) ∙ ap negation (code_at vars k up lt)))

pub lit_inj : (vars : List ℕ) (j k : ℕ) → IsStrictlyIncreasing vars → j < 2 * length vars → k < 2 * length vars → lit_at vars j ≡ lit_at vars k → j ≡ k
lit_inj vars j k up a b e = sym (code_at vars j up a) ∙ ap (code_of vars) e ∙ code_at vars k up b
