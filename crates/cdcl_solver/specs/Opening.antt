-- What the clauses watch at the start.
use Rattle.std.specs.Prelude.{◌≡◌, ℕ, ◌<◌, true, false, List, Some, slice_get, nat_eq, length}
use Rattle.prop.specs.Trues.{listed}
use Rattle.dense_trail.specs.declared.Trail.{Trail}
use Rattle.dense_trail.specs.Dense.{is_true}
use Rattle.watched_clauses.specs.declared.looking.Watch.{Watch}
use Rattle.watched_clauses.specs.Judge.{first_of, second_of, IsPair}
use Rattle.watched_clauses.specs.Watching.{lists_in}

-- the first m clauses watch two different literals, where they have two; there are n codes
pub record Built (rows : List (List ℕ)) (watches : List Watch) (lists : List (List ℕ)) (n m : ℕ) : Type 0 where
  pub paired : length watches ≡ m
  pub all : length lists ≡ n
  pub firsts : (k : ℕ) → k < m → first_of watches k < n
  pub seconds : (k : ℕ) → k < m → second_of watches k < n
  pub numbers : (x k : ℕ) → lists_in lists x k ≡ true → k < m
  pub in_first : (k : ℕ) (r : List ℕ) → k < m → slice_get rows k ≡ Some r → listed r (first_of watches k) ≡ true
  pub in_second : (k : ℕ) (r : List ℕ) → k < m → slice_get rows k ≡ Some r → listed r (second_of watches k) ≡ true
  pub at_first : (k : ℕ) → k < m → nat_eq (first_of watches k) (second_of watches k) ≡ false → lists_in lists (first_of watches k) k ≡ true
  pub at_second : (k : ℕ) → k < m → nat_eq (first_of watches k) (second_of watches k) ≡ false → lists_in lists (second_of watches k) k ≡ true
  pub pairs : (k : ℕ) (r : List ℕ) → k < m → slice_get rows k ≡ Some r → IsPair watches k r
  pub one : (k : ℕ) (r : List ℕ) (z : ℕ) → k < m → slice_get rows k ≡ Some r → nat_eq (first_of watches k) (second_of watches k) ≡ true → listed r z ≡ true → z ≡ first_of watches k

-- a clause that watches nothing has one literal
pub record AreUnits (rows : List (List ℕ)) (watches : List Watch) (n : ℕ) : Type 0 where
  pub small : (k : ℕ) → k < length watches → first_of watches k < n
  pub has : (k : ℕ) (r : List ℕ) → slice_get rows k ≡ Some r → listed r (first_of watches k) ≡ true
  pub only : (k : ℕ) (r : List ℕ) (z : ℕ) → slice_get rows k ≡ Some r → nat_eq (first_of watches k) (second_of watches k) ≡ true → listed r z ≡ true → z ≡ first_of watches k
  pub below : (k : ℕ) (r : List ℕ) (z : ℕ) → slice_get rows k ≡ Some r → listed r z ≡ true → z < n

-- those of the first m clauses that watch nothing are true
abbrev pub UnitsMet : List Watch → ℕ → Trail → Type 0
UnitsMet watches m t = (k : ℕ) → k < m → nat_eq (first_of watches k) (second_of watches k) ≡ true → is_true t.truth.items (first_of watches k) ≡ true
