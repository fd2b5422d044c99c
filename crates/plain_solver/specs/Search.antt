-- What the plain search keeps from turn to turn, and how it ends.
use Rattle.std.specs.Prelude.{◌≡◌, ℕ, ◌+◌, ◌<◌, true, List, length, slice_get, Some}
use Rattle.prop.specs.declared.Lit.{Lit}
use Rattle.prop.specs.Logic.{negated, all_hold}
use Rattle.prop.specs.Steps.{Has, In}
use Rattle.resolution_log.specs.declared.Chain.{Chain}
use Rattle.resolution_log.specs.Codes.{CoversAll}
use Rattle.clause_learning.specs.declared.Entry.{Entry}
use Rattle.clause_learning.specs.Trail.{Set}
use Rattle.clause_learning.specs.Covers.{RisesFrom, last_level}
use Rattle.clause_learning.specs.Solve.{State, IsRefuted, IsSpent, IsHeavy, values_of, pairs_of}
use Rattle.plain_solver.specs.declared.engine.Solver.{Solver}
use Rattle.plain_solver.specs.declared.engine.Ending.{Ending}
use Rattle.plain_solver.specs.declared.engine.Ending.TheVariants.{Met, Refuted, Learned, Heavy}
use Rattle.plain_solver.specs.declared.engine.Turn.{Turn}
use Rattle.plain_solver.specs.declared.engine.Turn.TheVariants.{On, Over}
use Rattle.plain_solver.specs.declared.engine.Stop.{Stop}
use Rattle.plain_solver.specs.declared.engine.Stop.TheVariants.{AllMet, Clash}

pub record StateOf (clauses : List (List Lit)) (learn limit : ℕ) (s : Solver) : Type 0 where
  pub state : State clauses s.known s.level s.trail.entries.items s.log
  pub short : length s.log < learn
  pub counted : s.pairs ≡ pairs_of s.log
  pub light : pairs_of s.log < limit
  pub covers : CoversAll s.trail.vars.items s.known
  pub rises : RisesFrom 0 s.trail.entries.items
  pub level : last_level 0 s.trail.entries.items ≡ s.level
  pub few : length s.known < 4294967296

abbrev pub IsEnding : List (List Lit) → ℕ → ℕ → Ending → Type 0
IsEnding clauses learn limit (Met t) = all_hold (values_of t.entries.items) clauses ≡ true
IsEnding clauses learn limit (Refuted log) = IsRefuted clauses learn log
IsEnding clauses learn limit (Learned log) = IsSpent clauses learn log
IsEnding clauses learn limit (Heavy log) = IsHeavy clauses learn limit log

abbrev pub IsTurn : List (List Lit) → ℕ → ℕ → Turn → Type 0
IsTurn clauses learn limit (On s) = StateOf clauses learn limit s
IsTurn clauses learn limit (Over e) = IsEnding clauses learn limit e

abbrev pub IsLonger : List Chain → Turn → Type 0
IsLonger log (On s) = length s.log ≡ length log + 1
IsLonger log (Over e) = Unit {0}

abbrev pub IsStop : List (List Lit) → List Entry → Stop → Type 0
IsStop known t AllMet = (c : List Lit) → In known c → (m : Lit) × Has c m × Set t m
IsStop known t (Clash k) = (c : List Lit) × (slice_get known k ≡ Some c) × ((m : Lit) → Has c m → Set t (negated m))
