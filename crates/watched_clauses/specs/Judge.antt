-- What a clause asks for when a literal that it watches has become false.
use Rattle.std.specs.Prelude.{◌≡◌, ℕ, ◌<◌, ◌≤◌, Bool, true, false, ◌||◌, cond, List, nat_eq, slice_index, slice_index_or, ◌⊎◌}
use Rattle.prop.specs.Trues.{listed}
use Rattle.dense_trail.specs.Dense.{negation, is_true}
use Rattle.watched_clauses.specs.declared.looking.Watch.{Watch}
use Rattle.watched_clauses.specs.declared.looking.Finding.{Finding}
use Rattle.watched_clauses.specs.declared.looking.Finding.TheVariants.{Elsewhere, Met, Open, Lone, Clash}

abbrev pub none_watched : Watch
none_watched = record { first = 0; second = 0; pair = false }

-- the literals that a clause watches
abbrev pub first_of : List Watch → ℕ → ℕ
first_of watches k = (slice_index_or watches k none_watched).first

abbrev pub second_of : List Watch → ℕ → ℕ
second_of watches k = (slice_index_or watches k none_watched).second

-- whether the clause is marked as one of two literals
abbrev pub pair_of : List Watch → ℕ → Bool
pair_of watches k = (slice_index_or watches k none_watched).pair

-- such a clause has no literal but those that it watches
abbrev pub IsPair : List Watch → ℕ → List ℕ → Type 0
IsPair watches k r = pair_of watches k ≡ true → (z : ℕ) → listed r z ≡ true → (z ≡ first_of watches k → ⊥) → z ≡ second_of watches k

-- what the last literal that may be true asks for
abbrev pub last_finding : List Bool → ℕ → Finding
last_finding truth other = cond (is_true truth (negation other)) Clash (Lone other)

-- whether a literal is no other one to watch: it is watched already, or it is false
abbrev pub is_closed : List Bool → ℕ → ℕ → Bool
is_closed truth other k = nat_eq k other || is_true truth (negation k)

-- the literals at these places are no others to watch
abbrev pub AllClosed : List Bool → ℕ → List ℕ → ℕ → ℕ → Type 0
AllClosed truth other r from to = (j : ℕ) → from ≤ j → j < to → is_closed truth other (slice_index r j) ≡ true

-- one of two is this, and the other that
abbrev pub AreWatched : ℕ → ℕ → ℕ → ℕ → Type 0
AreWatched first second one other = ((first ≡ one) × (second ≡ other)) ⊎ ((second ≡ one) × (first ≡ other))

abbrev pub IsFinding : List Bool → ℕ → ℕ → ℕ → List ℕ → Finding → Type 0
IsFinding truth falsified first second r Elsewhere = (first ≡ falsified → ⊥) × (second ≡ falsified → ⊥)
IsFinding truth falsified first second r Met = (other : ℕ) × AreWatched first second falsified other × (is_true truth other ≡ true)
IsFinding truth falsified first second r (Open other open') = AreWatched first second falsified other × (is_true truth other ≡ false) × (listed r open' ≡ true) × (open' ≡ other → ⊥) × (is_true truth (negation open') ≡ false)
IsFinding truth falsified first second r (Lone other) = AreWatched first second falsified other × (is_true truth other ≡ false) × (is_true truth (negation other) ≡ false) × ((k : ℕ) → listed r k ≡ true → (k ≡ other → ⊥) → is_true truth (negation k) ≡ true)
IsFinding truth falsified first second r Clash = (k : ℕ) → listed r k ≡ true → is_true truth (negation k) ≡ true
