-- A log cut to the chains that are needed, its clauses numbered anew by their rank among those needed.
use Rattle.std.specs.Prelude.{◌≡◌, ℕ, ◌+◌, Bool, true, false, cond, List, [], ◌∷◌, zero, suc}
use Rattle.resolution_log.specs.declared.Chain.{Chain}

-- a chain numbered anew
abbrev pub anew : (ℕ → ℕ) → List (ℕ × ℕ) → List (ℕ × ℕ)
anew f [] = []
anew f (p ∷ ps) = (p.0, f p.1) ∷ anew f ps

-- how many are needed below a number
abbrev pub rank : (ℕ → Bool) → ℕ → ℕ
rank need zero = 0
rank need (suc j) = rank need j + cond (need j) 1 0

abbrev pub Used : (ℕ → Bool) → List (ℕ × ℕ) → Type 0
Used need [] = Unit {0}
Used need (p ∷ ps) = (need p.1 ≡ true) × Used need ps

pub record Anew (need : ℕ → Bool) (ch ch' : Chain) : Type 0 where
  pub first : ch'.first ≡ rank need ch.first
  pub pairs : ch'.pairs ≡ anew (rank need) ch.pairs
  pub first_used : need ch.first ≡ true
  pub used : Used need ch.pairs

pub data Kept (need : ℕ → Bool) : ℕ → List Chain → List Chain → Type 0 where
  kept_none : {n : ℕ} → Kept need n [] []
  kept_not : {n : ℕ} {ch : Chain} {log kept : List Chain} → need n ≡ false → Kept need (suc n) log kept → Kept need n (ch ∷ log) kept
  kept_one : {n : ℕ} {ch ch' : Chain} {log kept : List Chain} → need n ≡ true → Anew need ch ch' → Kept need (suc n) log kept → Kept need n (ch ∷ log) (ch' ∷ kept)
