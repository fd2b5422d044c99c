-- While the list of a literal that became false is gone through, from its end: the clauses before `i` are still to come.
use Rattle.std.specs.Prelude.{◌≡◌, ℕ, ◌+◌, ◌<◌, ◌≤◌, true, List, take, drop, length, slice_index}
use Rattle.dense_trail.specs.declared.Trail.{Trail}
use Rattle.dense_trail.specs.Dense.{negation, is_true, level_of}
use Rattle.watched_clauses.specs.declared.looking.Watch.{Watch}
use Rattle.watched_clauses.specs.Watching.{Watching, lists_but, waits_but}

pub record Passing (rows : List (List ℕ)) (watches : List Watch) (lists : List (List ℕ)) (t : Trail) (level head a : ℕ) (list : List ℕ) (i : ℕ) : Type 0 where
  pub watching : Watching rows watches (lists_but lists a list) (waits_but (drop (head + 1) t.codes.items) a (take i list)) t.truth.items t.levels.items level (drop head t.codes.items)
  pub within : i ≤ length list
  pub waiting : head < length t.codes.items
  pub first : slice_index t.codes.items head ≡ negation a
  pub falsified : is_true t.truth.items (negation a) ≡ true
  pub at : level_of t.levels.items a ≡ level
  pub lists_all : length lists ≡ length t.truth.items
