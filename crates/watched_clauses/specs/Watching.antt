-- The invariant of two watched literals, over codes.
use Rattle.std.specs.Prelude.{◌≡◌, ℕ, ◌+◌, ◌*◌, ◌<◌, ◌≤◌, Bool, true, false, ◌&&◌, ◌||◌, cond, List, [], ◌∷◌, Option, Some, slice_get, slice_index_or, nat_eq, nat_le, length}
use Rattle.std.specs.List.Sorted.{IsStrictlyIncreasing}
use Rattle.prop.specs.Trues.{listed}
use Rattle.clause_learning.specs.Trail.{Holds}
use Rattle.clause_learning.specs.Covers.{RisesFrom, last_level}
use Rattle.dense_trail.specs.Dense.{negation, is_true, level_of, known_of, entries_of}
use Rattle.watched_clauses.specs.declared.looking.Watch.{Watch}
use Rattle.watched_clauses.specs.Judge.{first_of, second_of, IsPair}

-- whether a clause is in the list of a literal
abbrev pub lists_in : List (List ℕ) → ℕ → ℕ → Bool
lists_in lists x k = listed (slice_index_or lists x []) k

-- whether a clause's watched literal waits, where the queue has the literals that became true and were not looked at
abbrev pub waits_in : List ℕ → ℕ → ℕ → Bool
waits_in queue x k = listed queue (negation x)

-- A false watched literal x still waits, or the clause's other watched literal y is true, and became so at a level that is
-- not above that of x.
abbrev pub Excused : (ℕ → ℕ → Bool) → List Bool → List ℕ → ℕ → ℕ → ℕ → Type 0
Excused waits truth levels k x y = is_true truth (negation x) ≡ true → (waits x k || (is_true truth y && nat_le (level_of levels y) (level_of levels x))) ≡ true

-- a clause that watches two literals
pub record Watched (lists waits : ℕ → ℕ → Bool) (truth : List Bool) (levels r : List ℕ) (k x y : ℕ) : Type 0 where
  pub in_first : listed r x ≡ true
  pub in_second : listed r y ≡ true
  pub at_first : lists x k ≡ true
  pub at_second : lists y k ≡ true
  pub first : Excused waits truth levels k x y
  pub second : Excused waits truth levels k y x

-- a clause of one literal, which is true from the start
pub record Alone (truth : List Bool) (levels r : List ℕ) (x : ℕ) : Type 0 where
  pub only : (z : ℕ) → listed r z ≡ true → z ≡ x
  pub holds : is_true truth x ≡ true
  pub low : level_of levels x ≡ 0

pub record Watching (rows : List (List ℕ)) (watches : List Watch) (lists waits : ℕ → ℕ → Bool) (truth : List Bool) (levels : List ℕ) (level : ℕ) (queue : List ℕ) : Type 0 where
  pub paired : length watches ≡ length rows
  pub below : (k : ℕ) (r : List ℕ) (z : ℕ) → slice_get rows k ≡ Some r → listed r z ≡ true → z < length truth
  pub firsts : (k : ℕ) → k < length watches → first_of watches k < length truth
  pub seconds : (k : ℕ) → k < length watches → second_of watches k < length truth
  pub numbers : (x k : ℕ) → lists x k ≡ true → k < length rows
  pub pairs : (k : ℕ) (r : List ℕ) → slice_get rows k ≡ Some r → IsPair watches k r
  pub two : (k : ℕ) (r : List ℕ) → slice_get rows k ≡ Some r → nat_eq (first_of watches k) (second_of watches k) ≡ false → Watched lists waits truth levels r k (first_of watches k) (second_of watches k)
  pub one : (k : ℕ) (r : List ℕ) → slice_get rows k ≡ Some r → nat_eq (first_of watches k) (second_of watches k) ≡ true → Alone truth levels r (first_of watches k)
  pub top : (z : ℕ) → is_true truth z ≡ true → level_of levels z ≤ level
  pub queued : (z : ℕ) → listed queue z ≡ true → level_of levels z ≡ level

-- while the list of a literal that became false is gone through: the list is taken out, and what is left of it waits
abbrev pub lists_but : List (List ℕ) → ℕ → List ℕ → ℕ → ℕ → Bool
lists_but lists a list x k = cond (nat_eq x a) (listed list k) (lists_in lists x k)

abbrev pub waits_but : List ℕ → ℕ → List ℕ → ℕ → ℕ → Bool
waits_but rest a left x k = listed rest (negation x) || (nat_eq x a && listed left k)

-- the trail is that of the laws of clause learning, over the variables in rising order
pub record Linked (vars : List ℕ) (rows : List (List ℕ)) (level : ℕ) (codes levels : List ℕ) (reasons : List (Option ℕ)) : Type 0 where
  pub up : IsStrictlyIncreasing vars
  pub wide : length levels ≡ length vars
  pub holds : Holds (known_of vars rows) level (entries_of vars levels reasons codes)
  pub rises : RisesFrom 0 (entries_of vars levels reasons codes)
  pub last : last_level 0 (entries_of vars levels reasons codes) ≡ level
