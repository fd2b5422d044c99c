-- What a learned clause watches.
use Rattle.std.specs.Prelude.{◌≡◌, ℕ, ◌≤◌, true, cond, List, [], ◌∷◌, ◌++◌, slice_set, slice_index_or, nat_eq, ◌⊎◌}
use Rattle.prop.specs.Trues.{listed}
use Rattle.dense_trail.specs.Dense.{level_of}
use Rattle.watched_clauses.specs.declared.looking.Watch.{Watch}

-- the second is of the highest level among the others
pub record IsHighest (levels clause : List ℕ) (uip first second low : ℕ) : Type 0 where
  pub uip_first : first ≡ uip
  pub top : (z : ℕ) → listed clause z ≡ true → (z ≡ uip → ⊥) → level_of levels z ≤ low
  pub there : ((second ≡ uip) × (low ≡ 0) × ((z : ℕ) → listed clause z ≡ true → z ≡ uip)) ⊎ ((second ≡ uip → ⊥) × (listed clause second ≡ true) × (level_of levels second ≡ low))

abbrev pub put_in : List (List ℕ) → ℕ → ℕ → List (List ℕ)
put_in lists x k = slice_set lists x (slice_index_or lists x [] ++ k ∷ [])

-- the lists with one more clause
abbrev pub with_watch : List (List ℕ) → Watch → ℕ → List (List ℕ)
with_watch lists w k = cond (nat_eq w.first w.second) lists (put_in (put_in lists w.first k) w.second k)
