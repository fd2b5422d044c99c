-- What the solver keeps, and what it answers.
use Rattle.std.specs.Prelude.{◌≡◌, ℕ, ◌+◌, ◌<◌, ◌≤◌, Bool, true, List, [], ◌∷◌, ◌++◌, length, slice_get, Some, cond}
use Rattle.prop.specs.declared.Lit.{Lit}
use Rattle.prop.specs.Logic.{negated, positive_of, all_hold}
use Rattle.prop.specs.Trues.{listed}
use Rattle.prop.specs.Steps.{Has, In}
use Rattle.resolution_log.specs.declared.Chain.{Chain}
use Rattle.resolution_log.specs.Logs.{New, IsNewLog, Lean, AllSame}
use Rattle.resolution_log.specs.Codes.{CoversAll}
use Rattle.clause_learning.specs.declared.Entry.{Entry}
use Rattle.clause_learning.specs.declared.Answer.{Answer}
use Rattle.clause_learning.specs.declared.Answer.TheVariants.{Sat, Unsat, Spent}
use Rattle.clause_learning.specs.declared.SolveFail.{SolveFail}
use Rattle.clause_learning.specs.declared.SolveFail.TheVariants.{OverLog, Memory}
use Rattle.clause_learning.specs.Trail.{set_in, Set, Holds}
use Rattle.clause_learning.specs.Covers.{RisesFrom, last_level}

abbrev pub values_of : List Entry → ℕ → Bool
values_of t x = set_in t (positive_of x)

-- the variables that a trail makes true
abbrev pub trues_of : List Entry → List ℕ
trues_of [] = []
trues_of (e ∷ t) = cond e.lit.positive (e.lit.var ∷ trues_of t) (trues_of t)

-- how many pairs a log has
abbrev pub pairs_of : List Chain → ℕ
pairs_of [] = 0
pairs_of (ch ∷ chs) = length ch.pairs + pairs_of chs

-- A new log of fewer chains than `learn`, whose pairs reach the limit with its last chain and not before.
abbrev pub IsHeavy : List (List Lit) → ℕ → ℕ → List Chain → Type 0
IsHeavy clauses learn limit log = IsNewLog clauses log × (length log < learn) × (limit ≤ pairs_of log) × ((front : List Chain) (last : Chain) → log ≡ front ++ (last ∷ []) → pairs_of front < limit)

abbrev pub IsRefuted : List (List Lit) → ℕ → List Chain → Type 0
IsRefuted clauses learn log = Lean clauses log × (length log ≤ learn)

abbrev pub IsSpent : List (List Lit) → ℕ → List Chain → Type 0
IsSpent clauses learn log = IsNewLog clauses log × (length log ≡ learn)

-- The known clauses are, as sets, those given and the results of a new log; the trail holds; no clause is empty.
pub record State (clauses : List (List Lit)) (known : List (List Lit)) (level : ℕ) (t : List Entry) (log : List Chain) : Type 0 where
  pub results : List (List Lit)
  pub parts : AllSame known (clauses ++ results)
  pub new : New clauses log results
  pub holds : Holds known level t
  pub some : (c : List Lit) → In known c → c ≡ [] → ⊥

-- what is answered: a satisfying assignment, a lean refutation, or a new log that numbers the budget
abbrev pub IsAnswer : List (List Lit) → ℕ → Answer → Type 0
IsAnswer clauses learn (Sat a) = all_hold (listed a) clauses ≡ true
IsAnswer clauses learn (Unsat log) = IsRefuted clauses learn log
IsAnswer clauses learn (Spent log) = IsSpent clauses learn log

abbrev pub IsFail : List (List Lit) → ℕ → ℕ → SolveFail → Type 0
IsFail clauses learn limit (OverLog log) = IsHeavy clauses learn limit log
IsFail clauses learn limit Memory = Unit {0}
