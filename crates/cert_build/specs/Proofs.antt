-- What the proof of a map's obligations answers.
use Rattle.std.specs.Prelude.{ℕ, ◌<◌, ◌≡◌, Bool, true, List, length, Some, slice_get}
use Rattle.prop.specs.declared.BlastFail.TheVariants.{Over as TooMany}
use Rattle.prop.specs.Logic.{all_hold}
use Rattle.bit_gates.specs.Cut.{IsCutOff}
use Rattle.c_graph.specs.Shape.{Flow}
use Rattle.c_graph.specs.Runs.{Formulas}
use Rattle.resolution_log.specs.declared.Chain.{Chain}
use Rattle.clause_learning.specs.declared.QueryFail.{QueryFail}
use Rattle.clause_learning.specs.declared.QueryFail.TheVariants.{Over, OverLog, Memory}
use Rattle.clause_learning.specs.Solve.{IsHeavy, IsRefuted, IsSpent}
use Rattle.obligations.specs.Questions.{count_of}
use Rattle.obligations.specs.Stated.{obligation_says}
use Rattle.cert_check.specs.Answers.{IsWithin}
use Rattle.cert_build.specs.declared.proving.Proved.{Proved}
use Rattle.cert_build.specs.declared.proving.Proved.TheVariants.{Logs, Fails, Spent}

-- the clauses of an obligation are within the limit on literals, and the log is a lean refutation of them of at most `learn` chains
abbrev pub IsProof : Flow → Formulas → ℕ → ℕ → List Chain → Type 0
IsProof g m learn n log = IsWithin g m n × IsRefuted (obligation_says g m n) learn log

-- the first obligations, so many, each with such a refutation
pub record AreProofsTo (g : Flow) (m : Formulas) (learn n : ℕ) (logs : List (List Chain)) : Type 0 where
  pub count : length logs ≡ n
  pub each : (k : ℕ) (log : List Chain) → slice_get logs k ≡ Some log → IsProof g m learn k log

-- all obligations
abbrev pub AreProofs : Flow → Formulas → ℕ → List (List Chain) → Type 0
AreProofs g m learn logs = AreProofsTo g m learn (count_of g) logs

-- the obligations before one of them have such refutations
pub record IsLowest (g : Flow) (m : Formulas) (learn n : ℕ) : Type 0 where
  pub there : n < count_of g
  pub logs : List (List Chain)
  pub before : AreProofsTo g m learn n logs

-- an assignment satisfies the clauses of the obligation
abbrev pub HasModel : Flow → Formulas → ℕ → Type 0
HasModel g m n = (v : ℕ → Bool) × (all_hold v (obligation_says g m n) ≡ true)

-- refutations of all obligations; or the lowest that has none, because it fails or because a new log numbers the budget
abbrev pub IsProved : Flow → Formulas → ℕ → Proved → Type 0
IsProved g m learn (Logs logs) = AreProofs g m learn logs.items
IsProved g m learn (Fails n) = IsLowest g m learn n × HasModel g m n
IsProved g m learn (Spent n log) = IsLowest g m learn n × IsSpent (obligation_says g m n) learn log

-- why one obligation has no answer: the limit on literals cuts its clauses off, at this size, or a new log reaches the limit on pairs
abbrev pub IsOneCause : Flow → Formulas → ℕ → ℕ → QueryFail → Type 0
IsOneCause g m n learn (Over size) = IsCutOff (obligation_says g m n) (TooMany size)
IsOneCause g m n learn (OverLog log) = IsHeavy (obligation_says g m n) learn 134217728 log
IsOneCause g m n learn Memory = Unit {0}

-- the same of the lowest obligation that has none
abbrev pub IsProveCause : Flow → Formulas → ℕ → QueryFail → Type 0
IsProveCause g m learn (Over size) = (n : ℕ) × IsLowest g m learn n × IsCutOff (obligation_says g m n) (TooMany size)
IsProveCause g m learn (OverLog log) = (n : ℕ) × IsLowest g m learn n × IsHeavy (obligation_says g m n) learn 134217728 log
IsProveCause g m learn Memory = Unit {0}
