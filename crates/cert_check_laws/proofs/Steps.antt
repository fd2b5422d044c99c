-- The check of a log has one answer.
use Rattle.std.proofs.Common.{◌≡◌, ℕ, zero, suc, ◌<◌, ◌≤◌, inl, inr, List, [], ◌∷◌, ◌++◌, take, refl, ap, ◌∙◌, Some, slice_get, arith}
use Rattle.prop.specs.declared.Lit.{Lit}
use Rattle.resolution_log.specs.declared.Chain.{Chain}
use Rattle.resolution_log.specs.declared.LogFail.TheVariants.{BadStep, NoEmpty}
use Rattle.resolution_log.specs.Chains.{results_of, IsRefutation}
use Rattle.resolution_log.specs.Verdict.{IsCause}
use Rattle.cert_check_laws.proofs.Limits.{which}
use Rattle.cert_check_laws.proofs.Logs.{bad_ends}

-- an element in front of a front
pub get-front : {X : Type 0} (xs : List X) (j k : ℕ) → j < k → slice_get (take k xs) j ≡ slice_get xs j
get-front xs j zero less = absurd (omega (arith, less))
get-front [] j (suc k) less = refl
get-front (x ∷ xs) zero (suc k) less = refl
get-front (x ∷ xs) (suc j) (suc k) less = get-front xs j k (omega (arith, less))

pub take-front : {X : Type 0} (xs : List X) (j k : ℕ) → j ≤ k → take j (take k xs) ≡ take j xs
take-front xs zero k le = refl
take-front xs (suc j) zero le = absurd (omega (arith, le))
take-front [] (suc j) (suc k) le = refl
take-front (x ∷ xs) (suc j) (suc k) le = ap (λ zs. x ∷ zs) (take-front xs j k (omega (arith, le)))

-- a chain that is not valid is in no front whose chains are
bad_in : (known : List (List Lit)) (log : List Chain) (j k : ℕ) (all : List (List Lit)) → j < k → IsCause known log (BadStep j)
    → results_of known (take k log) ≡ Some all → ⊥
bad_in known log j k all less (rs, ch, front, there, bad) whole =
    bad_ends (take k log) known j rs all ch (ap (results_of known) (take-front log j k (omega (arith, less))) ∙ front)
    (get-front log j k less ∙ there) bad whole

-- a log has one first chain that is not valid
pub same_step : (known : List (List Lit)) (log : List Chain) (j k : ℕ) → IsCause known log (BadStep j) → IsCause known log (BadStep k) → j ≡ k
same_step known log j k a b = elim (which j k) [
  | inl less ↦ absurd (bad_in known log j k b.0 less a b.2)
  | inr rest ↦ elim rest [
    | inl more ↦ absurd (bad_in known log k j a.0 more b a.2)
    | inr same ↦ same
  ]
]

-- where one is not valid, not all are
pub not_both : (known : List (List Lit)) (log : List Chain) (k : ℕ) → IsCause known log (BadStep k) → IsCause known log NoEmpty → ⊥
not_both known log k (rs, ch, front, there, bad) b = bad_ends log known k rs b.0.0 ch front there bad b.0.1

-- and the log is no refutation
pub no_refutation : (known : List (List Lit)) (log : List Chain) (k : ℕ) → IsCause known log (BadStep k) → IsRefutation known log → ⊥
no_refutation known log k (rs, ch, front, there, bad) r = bad_ends log known k rs (r.0 ++ ([] ∷ [])) ch front there bad r.1
