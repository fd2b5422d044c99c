-- What an answer means, and its lines.
use Rattle.std.specs.Prelude.{◌≡◌, ◌⊎◌, ℕ, min, Bool, true, cond, List, [], ◌∷◌, ◌++◌, length, codes}
use Rattle.std.specs.Fmt.{decimal}
use Rattle.prop.specs.declared.Lit.{Lit}
use Rattle.prop.specs.Logic.{all_hold}
use Rattle.prop.specs.Trues.{listed}
use Rattle.resolution_log.specs.declared.Chain.{Chain}
use Rattle.resolution_log.specs.Chains.{IsRefutation}
use Rattle.clause_learning.specs.Solve.{IsHeavy, IsSpent, pairs_of}
use Rattle.dimacs.specs.declared.answering.Told.{Told}
use Rattle.dimacs.specs.declared.answering.Told.TheVariants.{Satisfiable, Unsatisfiable, Unknown}

-- the counts are those of the log, as far as 64 bits go
abbrev pub AreCounts : List Chain → ℕ → ℕ → Type 0
AreCounts log chains pairs = (chains ≡ length log) × (pairs ≡ min (pairs_of log) 18446744073709551615)

-- SATISFIABLE is said with a satisfying assignment, UNSATISFIABLE where there is a refutation, UNKNOWN where a new log has as many chains as may
-- be learned, or its pairs reach the limit.
abbrev pub IsTold : List (List Lit) → ℕ → Told → Type 0
IsTold clauses learn (Satisfiable a) = all_hold (listed a) clauses ≡ true
IsTold clauses learn (Unsatisfiable chains pairs) = (log : List Chain) × IsRefutation clauses log × AreCounts log chains pairs
IsTold clauses learn (Unknown chains pairs) = (log : List Chain) × (IsSpent clauses learn log ⊎ IsHeavy clauses learn 134217728 log) × AreCounts log chains pairs

abbrev pub status_of : Told → ℕ
status_of (Satisfiable a) = 10
status_of (Unsatisfiable chains pairs) = 20
status_of (Unknown chains pairs) = 0

-- a variable that is true, or the negation of one that is false
abbrev pub value_line : Bool → ℕ → List ℕ
value_line true n = codes "v " ++ (decimal n ++ 10 ∷ [])
value_line _ n = codes "v -" ++ (decimal n ++ 10 ∷ [])

-- the lines of these variables
abbrev pub value_lines : (ℕ → Bool) → List ℕ → List ℕ
value_lines v [] = codes "v 0" ++ 10 ∷ []
value_lines v (n ∷ ns) = value_line (v n) n ++ value_lines v ns

abbrev pub count_lines : ℕ → ℕ → List ℕ
count_lines chains pairs = codes "c chains " ++ (decimal chains ++ (10 ∷ codes "c pairs " ++ (decimal pairs ++ 10 ∷ [])))

-- the lines of an answer, for clauses over these variables
abbrev pub text_of : List ℕ → Told → List ℕ
text_of vars (Satisfiable a) = codes "s SATISFIABLE" ++ (10 ∷ value_lines (listed a) vars)
text_of vars (Unsatisfiable chains pairs) = count_lines chains pairs ++ (codes "s UNSATISFIABLE" ++ 10 ∷ [])
text_of vars (Unknown chains pairs) = count_lines chains pairs ++ (codes "s UNKNOWN" ++ 10 ∷ [])
