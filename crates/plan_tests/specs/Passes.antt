-- Passes that end at the first no: over numbers, and over lists with the number of each element.
use Rattle.std.specs.Prelude.{ℕ, zero, suc, ◌+◌, ◌&&◌, Bool, true, List, [], ◌∷◌}

-- so many numbers from one on pass
unfoldable pub all_from : (ℕ → Bool) → (left at : ℕ) → Bool
all_from test zero at = true
all_from test (suc left) at = test at && all_from test left (at + 1)

-- each element passes, the first having this number
abbrev pub all_at : {X : Type 0} → (ℕ → X → Bool) → ℕ → List X → Bool
all_at test at [] = true
all_at test at (x ∷ xs) = test at x && all_at test (at + 1) xs
