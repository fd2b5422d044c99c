-- The invariant of the watched literals at the values of the code.
use Rattle.std.specs.Prelude.{◌≡◌, ℕ, true, List, drop, Some, slice_get}
use Rattle.prop.specs.Trues.{listed}
use Rattle.dense_trail.specs.declared.Trail.{Trail}
use Rattle.dense_trail.specs.Dense.{negation, is_true}
use Rattle.watched_clauses.specs.declared.looking.Watch.{Watch}
use Rattle.watched_clauses.specs.Watching.{lists_in, waits_in, Watching, Linked}

-- the literals from `head` on wait
abbrev pub KeepsWatch : List (List ℕ) → List Watch → List (List ℕ) → Trail → ℕ → ℕ → Type 0
KeepsWatch rows watches lists t level head = Watching rows watches (lists_in lists) (waits_in (drop head t.codes.items)) t.truth.items t.levels.items level (drop head t.codes.items)

abbrev pub IsLinked : List ℕ → List (List ℕ) → ℕ → Trail → Type 0
IsLinked vars rows level t = Linked vars rows level t.codes.items t.levels.items t.reasons.items

-- all literals of the clause with this number are false
abbrev pub IsFalse : List (List ℕ) → Trail → ℕ → Type 0
IsFalse rows t k = (r : List ℕ) × (slice_get rows k ≡ Some r) × ((z : ℕ) → listed r z ≡ true → is_true t.truth.items (negation z) ≡ true)
