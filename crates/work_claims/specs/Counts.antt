-- How often a number stands in a list, and the least number of a list.
use Rattle.std.specs.Prelude.{ℕ, ◌+◌, ◌<◌, ◌==◌, min, List, [], ◌∷◌, nat_lt, if◌then◌else◌, All}

-- how often x stands in the list
abbrev pub times : ℕ → List ℕ → ℕ
times x [] = 0
times x (y ∷ ys) = (if y == x then 1 else 0) + times x ys

-- how often x stands among the numbers below n, each taken once
abbrev pub once_below : ℕ → ℕ → ℕ
once_below x n = if nat_lt x n then 1 else 0

-- the least of the numbers; 4294967295 where there is none
abbrev pub least : List ℕ → ℕ
least [] = 4294967295
least (x ∷ xs) = min x (least xs)

-- each number of the first list stands in the second
abbrev pub Among : List ℕ → List ℕ → Type 0
Among xs ys = All (λ x. 0 < times x ys) xs

module _ {X : Type 0} (f : X → ℕ) where
  -- f of each, added up
  abbrev pub total_of : List X → ℕ
  total_of [] = 0
  total_of (x ∷ xs) = f x + total_of xs

  -- the least f of any; 4294967295 where there is none
  abbrev pub least_of : List X → ℕ
  least_of [] = 4294967295
  least_of (x ∷ xs) = min (f x) (least_of xs)
