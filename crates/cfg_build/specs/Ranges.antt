-- Where the code and the slots of each function stand.
use Rattle.std.specs.Prelude.{ℕ, zero, suc, ◌<◌, ◌≡◌, nat_lt, if◌then◌else◌, List, [], ◌∷◌, ◌++◌, length, Option, None, Some, slice_get, slice_set}
use Rattle.c_typed.specs.Parts.{Parts, tree_of}
use Rattle.slot_code.specs.Programs.{code_of}
use Rattle.slot_code.specs.Slots.{slots_in}
use Rattle.slot_code.specs.Values as c
use Rattle.slot_values.specs.declared.scene.Link.{Link}
use Rattle.cfg_build.specs.declared.placing.Range.{Range}

-- the range of a link whose code goes up to an end, and its slots up to a bound
abbrev pub range_of : c.Link → (end bound : ℕ) → Range
range_of l end bound = record { function = l.function; entry = l.entry; end = end; slot = l.slot; bound = bound }

-- it stands at its function's number, and has some code
pub record IsRange (l : c.Link) (end bound : ℕ) (ranges : List Range) : Type 0 where
  pub there : slice_get ranges l.function ≡ Some (range_of l end bound)
  pub some : l.entry < end

-- Of links, the newest first: code and slots of each function go up to those of the next one, those of the newest up to an end and a bound.
abbrev pub AreRanges : (end bound : ℕ) → List c.Link → List Range → Type 0
AreRanges end bound [] ranges = Unit {0}
AreRanges end bound (l ∷ ls) ranges = IsRange l end bound ranges × AreRanges l.entry l.slot ls ranges

-- the entry of a link, or the end of all code behind the last one
abbrev pub entry_or : ℕ → Option Link → ℕ
entry_or end None = end
entry_or end (Some l) = l.entry

-- the slot of a link, or the bound of all slots behind the last one
abbrev pub slot_or : ℕ → Option Link → ℕ
slot_or bound None = bound
slot_or bound (Some l) = l.slot

-- of a program's functions in this order
abbrev pub ProgramRanges : Parts → List ℕ → List Range → Type 0
ProgramRanges t order ranges =
    AreRanges (length (code_of (tree_of t) order).instructions) (slots_in (code_of (tree_of t) order).instructions) (code_of (tree_of t) order).links ranges

-- ---- How they are laid

-- a range without a place
abbrev pub no_range : ℕ → Range
no_range function = record { function = function; entry = 0; end = 0; slot = 0; bound = 0 }

-- one for each of so many functions
abbrev pub no_ranges : ℕ → List Range
no_ranges zero = []
no_ranges (suc n) = no_ranges n ++ no_range n ∷ []

-- Of links, the newest first, whose code and slots go up to an end and a bound: the range of each stands at its function's number, that
-- of a newer one in place of an older one's.
abbrev pub ranges_to : (end bound : ℕ) → List c.Link → List Range → List Range
ranges_to end bound [] ranges = ranges
ranges_to end bound (l ∷ ls) ranges = slice_set (ranges_to l.entry l.slot ls ranges) l.function (range_of l end bound)

-- the number of `main`, 0 where there is none that is small enough
abbrev pub main_or : Option ℕ → ℕ
main_or None = 0
main_or (Some n) = if nat_lt n 4294967296 then n else 0
