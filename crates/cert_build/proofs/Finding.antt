-- Places for logs: empty ones, and one that is filled or emptied.
use Rattle.std.proofs.Common.{◌≡◌, ℕ, zero, suc, List, [], ◌∷◌, Option, Some, None, replicate, slice_get, refl, subst}
use Rattle.std.specs.Prelude.{slice_index_or, slice_set, IfSome}
use Rattle.c_graph.specs.Shape.{Flow}
use Rattle.c_graph.specs.Runs.{Formulas}
use Rattle.resolution_log.specs.declared.Chain.{Chain}
use Rattle.cert_build.specs.Proofs.{IsProof}
use Rattle.cert_build.specs.Answered.{AreLogs}

-- what is said of each log that is there
abbrev Filled : (ℕ → List Chain → Type 0) → List (Option (List Chain)) → Type 0
Filled P logs = (k : ℕ) (log : List Chain) → slice_get logs k ≡ Some (Some log) → P k log

filled-none : (P : ℕ → List Chain → Type 0) (n : ℕ) → Filled P (replicate n None)
filled-none P zero k log at = absurd (cc at)
filled-none P (suc n) zero log at = absurd (cc at)
filled-none P (suc n) (suc k) log at = filled-none (λ i. P (suc i)) n k log at

filled-set : (P : ℕ → List Chain → Type 0) (logs : List (Option (List Chain))) (n : ℕ) (o : Option (List Chain)) → ((log : List Chain) → o ≡ Some log → P n log)
    → Filled P logs → Filled P (slice_set logs n o)
filled-set P [] n o new h k log at = h k log at
filled-set P (x ∷ logs) zero o new h zero log at = new log (cc at)
filled-set P (x ∷ logs) zero o new h (suc k) log at = h (suc k) log at
filled-set P (x ∷ logs) (suc n) o new h zero log at = h zero log at
filled-set P (x ∷ logs) (suc n) o new h (suc k) log at = filled-set (λ i. P (suc i)) logs n o new (λ i other here. h (suc i) other here) k log at

filled-at : (P : ℕ → List Chain → Type 0) (logs : List (Option (List Chain))) (n : ℕ) → Filled P logs → IfSome (slice_index_or logs n None) (P n)
filled-at P [] n h = tt
filled-at P (None ∷ logs) zero h = tt
filled-at P (Some log ∷ logs) zero h = h zero log refl
filled-at P (x ∷ logs) (suc n) h = filled-at (λ i. P (suc i)) logs n (λ i other here. h (suc i) other here)

pub none_there : (g : Flow) (m : Formulas) (learn n : ℕ) → AreLogs g m learn (replicate n None)
none_there g m learn n = record { each = filled-none (IsProof g m learn) n }

pub log_placed : (g : Flow) (m : Formulas) (learn : ℕ) (logs : List (Option (List Chain))) (n : ℕ) (log : List Chain) → AreLogs g m learn logs → IsProof g m learn n log
    → AreLogs g m learn (slice_set logs n (Some log))
log_placed g m learn logs n log h is = record { each = filled-set (IsProof g m learn) logs n (Some log) (λ other same. subst (IsProof g m learn n) (cc same) is) h.each }

pub log_taken : (g : Flow) (m : Formulas) (learn : ℕ) (logs : List (Option (List Chain))) (n : ℕ) → AreLogs g m learn logs → AreLogs g m learn (slice_set logs n None)
log_taken g m learn logs n h = record { each = filled-set (IsProof g m learn) logs n None (λ other same. absurd (cc same)) h.each }

-- a log that stood at its place proves its obligation
pub log_there : (g : Flow) (m : Formulas) (learn : ℕ) (logs : List (Option (List Chain))) (n : ℕ) → AreLogs g m learn logs → IfSome (slice_index_or logs n None) (IsProof g m learn n)
log_there g m learn logs n h = filled-at (IsProof g m learn) logs n h.each
