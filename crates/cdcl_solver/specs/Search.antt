-- What the search keeps from turn to turn, and how it ends.
use Rattle.std.specs.Prelude.{◌≡◌, ℕ, ◌+◌, ◌<◌, true, List, length}
use Rattle.prop.specs.declared.Lit.{Lit}
use Rattle.prop.specs.Logic.{all_hold}
use Rattle.prop.specs.Trues.{listed}
use Rattle.resolution_log.specs.declared.Chain.{Chain}
use Rattle.clause_learning.specs.Solve.{State, IsRefuted, IsSpent, IsHeavy, pairs_of}
use Rattle.dense_trail.specs.declared.Trail.{Trail}
use Rattle.dense_trail.specs.Dense.{known_of}
use Rattle.watched_clauses.specs.Kept.{IsLinked}
use Rattle.conflict_analysis.specs.Walk.{RowsFit}
use Rattle.cdcl_solver.specs.Stops.{trail_entries}
use Rattle.cdcl_solver.specs.declared.engine.Solver.{Solver}
use Rattle.cdcl_solver.specs.declared.engine.Ending.{Ending}
use Rattle.cdcl_solver.specs.declared.engine.Ending.TheVariants.{Met, Refuted, Learned, Heavy}
use Rattle.cdcl_solver.specs.declared.engine.Turn.{Turn}
use Rattle.cdcl_solver.specs.declared.engine.Turn.TheVariants.{On, Over}

-- the laws of clause learning hold of the rows, the trail and the log
pub record Rests (clauses : List (List Lit)) (vars : List ℕ) (rows : List (List ℕ)) (level : ℕ) (t : Trail) (log : List Chain) : Type 0 where
  pub state : State clauses (known_of vars rows) level (trail_entries vars t) log
  pub linked : IsLinked vars rows level t
  pub fit : RowsFit vars rows

pub record StateOf (clauses : List (List Lit)) (learn limit : ℕ) (s : Solver) : Type 0 where
  pub rests : Rests clauses s.vars.items s.board.rows s.board.level s.board.trail s.log
  pub short : length s.log < learn
  pub counted : s.pairs ≡ pairs_of s.log
  pub light : pairs_of s.log < limit
  pub few : length s.board.rows < 4294967296
  pub stamps : length s.notes.stamps.items ≡ length s.vars.items
  pub pace : 0 < s.pace.size

abbrev pub IsEnding : List (List Lit) → ℕ → ℕ → Ending → Type 0
IsEnding clauses learn limit (Met vars) = all_hold (listed vars.items) clauses ≡ true
IsEnding clauses learn limit (Refuted log) = IsRefuted clauses learn log
IsEnding clauses learn limit (Learned log) = IsSpent clauses learn log
IsEnding clauses learn limit (Heavy log) = IsHeavy clauses learn limit log

abbrev pub IsTurn : List (List Lit) → ℕ → ℕ → Turn → Type 0
IsTurn clauses learn limit (On s) = StateOf clauses learn limit s
IsTurn clauses learn limit (Over e) = IsEnding clauses learn limit e

abbrev pub IsLonger : List Chain → Turn → Type 0
IsLonger log (On s) = length s.log ≡ length log + 1
IsLonger log (Over e) = Unit {0}
