-- How values and levels are kept by the numbers of the variables.
use Rattle.std.specs.Prelude.{◌≡◌, ℕ, ◌+◌, ◌≤◌, Bool, true, false, not, ◌&&◌, List, [], ◌∷◌, slice_index_or, slice_index, nat_le}
use Rattle.prop.specs.declared.Lit.{Lit}
use Rattle.prop.specs.Trues.{listed}
use Rattle.resolution_log.specs.Codes.{code_of, place, Covers, CoversAll}
use Rattle.clause_learning.specs.declared.Entry.{Entry}
use Rattle.clause_learning.specs.Trail.{set_in, Set, set_at}

-- the value of each literal, by its code
abbrev pub Valued : List ℕ → List Bool → List Entry → Type 0
Valued vars truth t = (l : Lit) → slice_index_or truth (code_of vars l) false ≡ set_in t l

-- the level of each variable that has a value, by its number
abbrev pub Levelled : List ℕ → List ℕ → List Entry → Type 0
Levelled vars levels t = (l : Lit) → Set t l → (k : ℕ) → nat_le (slice_index levels (place vars l.var)) k ≡ set_at k t l

-- only listed variables have values
abbrev pub IsCovered : List ℕ → List Entry → Type 0
IsCovered vars t = (l : Lit) → Set t l → listed vars l.var ≡ true

-- no literal stands twice
abbrev pub distinct : List Entry → Bool
distinct [] = true
distinct (e ∷ t) = not (set_in t e.lit) && distinct t

-- levels rise by one at most, from the level before
abbrev pub RisesFrom : ℕ → List Entry → Type 0
RisesFrom p [] = Unit {0}
RisesFrom p (e ∷ t) = (p ≤ e.level) × (e.level ≤ p + 1) × RisesFrom e.level t

-- the level of the last entry
abbrev pub last_level : ℕ → List Entry → ℕ
last_level p [] = p
last_level p (e ∷ t) = last_level e.level t
