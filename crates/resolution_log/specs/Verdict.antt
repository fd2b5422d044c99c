-- What the check of a log answers.
use Rattle.std.specs.Prelude.{◌≡◌, ℕ, ◌+◌, Bool, true, false, List, [], ◌∷◌, ◌++◌, Option, Some, None, Result, Ok, Err, nat_eq, length, take, slice_get}
use Rattle.prop.specs.declared.Lit.{Lit}
use Rattle.resolution_log.specs.declared.Chain.{Chain}
use Rattle.resolution_log.specs.declared.LogFail.{LogFail}
use Rattle.resolution_log.specs.declared.LogFail.TheVariants.{BadStep, NoEmpty, Memory}
use Rattle.resolution_log.specs.declared.check.Told.{Told}
use Rattle.resolution_log.specs.declared.check.Told.TheVariants.{Refutes as TRefutes, Bad as TBad, Lacks as TLacks}
use Rattle.resolution_log.specs.Chains.{chain_result, results_of, IsRefutation}

pub data Verdict : Type 0 where
  Refutes : Verdict
  Bad : ℕ → Verdict
  Lacks : Verdict

abbrev pub is_nil : List Lit → Bool
is_nil r = nat_eq (length r) 0

abbrev pub at_end : Bool → Verdict
at_end true = Refutes
at_end false = Lacks

abbrev pub verdict_at : ℕ → Option (List Lit) → (List Lit → Verdict) → Verdict
verdict_at n None go = Bad n
verdict_at n (Some r) go = go r

-- chain by chain, from the number n; `last` says whether the result before is empty
abbrev pub verdict_of : List (List Lit) → ℕ → Bool → List Chain → Verdict
verdict_of known n last [] = at_end last
verdict_of known n last (ch ∷ chs) = verdict_at n (chain_result known ch) (λ r. verdict_of (known ++ (r ∷ [])) (n + 1) (is_nil r) chs)

abbrev pub IsVerdict : Verdict → Result (Unit {0}) LogFail → Type 0
IsVerdict v (Ok u) = v ≡ Refutes
IsVerdict v (Err (BadStep k)) = v ≡ Bad k
IsVerdict v (Err NoEmpty) = v ≡ Lacks
IsVerdict v (Err Memory) = Unit {0}

abbrev pub IsTold : Verdict → Told → Type 0
IsTold v TRefutes = v ≡ Refutes
IsTold v (TBad k) = v ≡ Bad k
IsTold v TLacks = v ≡ Lacks

-- Why a log is not accepted. `BadStep`: the chains before it are valid, and it is not, over the clauses and their
-- results. `NoEmpty`: all chains are valid, and the log is no refutation.
abbrev pub IsCause : List (List Lit) → List Chain → LogFail → Type 0
IsCause clauses log (BadStep k) = (rs : List (List Lit)) × (ch : Chain) × (results_of clauses (take k log) ≡ Some rs) × (slice_get log k ≡ Some ch) × (chain_result (clauses ++ rs) ch ≡ None)
IsCause clauses log NoEmpty = ((rs : List (List Lit)) × (results_of clauses log ≡ Some rs)) × (IsRefutation clauses log → ⊥)
IsCause clauses log Memory = Unit {0}
