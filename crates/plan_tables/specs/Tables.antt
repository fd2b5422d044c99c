-- Tables by number, which answer for every number: truths, and the units that are read from a node on.
use Rattle.std.specs.Prelude.{ℕ, ◌/◌, ◌%◌, ◌^◌, ◌==◌, ◌||◌, Bool, false, not, List, [], map, Option, None, Some, slice_get, Vec}
use Rattle.std.specs.Global.{Global}

-- the units of cells: the unit of each cell, and of each unit whether it has one cell
pub record UnitTable : Type 0 where
  pub units : List ℕ
  pub single : List Bool

-- what is read from each node on: a row of words for each node, and whether these are known
pub record LiveRows : Type 0 where
  pub rows : List (List ℕ)
  pub is_whole : Bool

-- lists that lie in memory of their own, as lists
abbrev pub lists_of : List (Vec ℕ Global) → List (List ℕ)
lists_of vs = map (λ (v : Vec ℕ Global). v.items) vs

abbrev pub flag_of : Option Bool → Bool
flag_of None = false
flag_of (Some b) = b

-- the truth of a number, false past the end
abbrev pub flag_at : List Bool → ℕ → Bool
flag_at flags n = flag_of (slice_get flags n)

-- the unit of a cell, none past the end
abbrev pub unit_at : UnitTable → ℕ → Option ℕ
unit_at units c = slice_get units.units c

-- a bit of a word, counted from the lowest
abbrev pub has_bit : ℕ → ℕ → Bool
has_bit word bit = word / 2 ^ bit % 2 == 1

abbrev pub bit_in : Option ℕ → ℕ → Bool
bit_in None bit = false
bit_in (Some word) bit = has_bit word bit

abbrev pub unit_in : Option (List ℕ) → ℕ → Bool
unit_in None unit = false
unit_in (Some row) unit = bit_in (slice_get row (unit / 64)) (unit % 64)

-- whether a unit may be read from a node on; where what is read is not known, each is
abbrev pub is_live_in : LiveRows → ℕ → ℕ → Bool
is_live_in live v unit = not live.is_whole || unit_in (slice_get live.rows v) unit

abbrev pub list_of : Option (List ℕ) → List ℕ
list_of None = []
list_of (Some units) = units

-- the words of a node, none past the end: a unit is a bit of one of them
abbrev pub words_of : LiveRows → ℕ → List ℕ
words_of live v = list_of (slice_get live.rows v)

-- the units that a term is said to read
abbrev pub units_of : List (List ℕ) → ℕ → List ℕ
units_of reads t = list_of (slice_get reads t)
