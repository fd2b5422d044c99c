-- The walk down the trail: the literals before `at` are still to come.
use Rattle.std.specs.Prelude.{◌≡◌, ℕ, ◌*◌, ◌≤◌, true, List, Option, Some, None, take, drop, length, slice_get}
use Rattle.prop.specs.declared.Lit.{Lit}
use Rattle.prop.specs.Trues.{listed}
use Rattle.prop.specs.Steps.{has}
use Rattle.resolution_log.specs.Codes.{AllBelow}
use Rattle.clause_learning.specs.declared.Entry.{Entry}
use Rattle.clause_learning.specs.Trail.{Going, ToldSet}
use Rattle.dense_trail.specs.declared.Trail.{Trail}
use Rattle.dense_trail.specs.Dense.{level_of, lit_at, lits_of, known_of, entries_of}
use Rattle.conflict_analysis.specs.Notes.{Noted}

-- the entries of the first literals of a trail
abbrev pub first_entries : List ℕ → Trail → ℕ → List Entry
first_entries vars t at = entries_of vars t.levels.items t.reasons.items (take at t.codes.items)

-- each row is of codes of these variables
abbrev pub RowsFit : List ℕ → List (List ℕ) → Type 0
RowsFit vars rows = (k : ℕ) (r : List ℕ) → slice_get rows k ≡ Some r → AllBelow (2 * length vars) r

-- all literals from there on are of this level at least
abbrev pub AreAbove : Trail → ℕ → ℕ → Type 0
AreAbove t level at = (k : ℕ) → listed (drop at t.codes.items) k ≡ true → level ≤ level_of t.levels.items k

pub record Walking (vars : List ℕ) (rows : List (List ℕ)) (t : Trail) (level conflict : ℕ) (pairs : List (ℕ × ℕ)) (epoch : ℕ) (stamps learnt : List ℕ) (here' at : ℕ) : Type 0 where
  pub whole : List Lit
  pub go : Going (known_of vars rows) level (first_entries vars t at) conflict whole pairs
  pub noted : Noted (take at t.codes.items) t.levels.items level epoch stamps learnt here' (2 * length vars) (λ z. has whole (lit_at vars z))
  pub within : at ≤ length t.codes.items
  pub above : AreAbove t level at

abbrev pub lit_option : List ℕ → Option ℕ → Option Lit
lit_option vars None = None
lit_option vars (Some k) = Some (lit_at vars k)

-- what an analysis gives: a clause, and how many literals of the trail stand before the one that it ended at
abbrev pub IsTaught : List ℕ → List (List ℕ) → Trail → ℕ → ℕ → List ℕ → List (ℕ × ℕ) → Option ℕ → ℕ → Type 0
IsTaught vars rows t level conflict clause pairs uip left = ToldSet (known_of vars rows) level (first_entries vars t left) conflict (lits_of vars clause) pairs (lit_option vars uip)
