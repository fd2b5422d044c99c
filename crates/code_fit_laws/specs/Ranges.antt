-- The ranges of a program's functions: where the code and the slots of each stand.
use Rattle.std.specs.Prelude.{ℕ, zero, suc, nat_eq, ◌≡◌, ◌<◌, ◌≤◌, ◌⊎◌, if◌then◌else◌, List, [], ◌∷◌, length, Option, None, Some, slice_get, slice_set}
use Rattle.c_typed.specs.Parts.{Parts, tree_of}
use Rattle.slot_code.specs.declared.flat.Instruction.{Instruction}
use Rattle.slot_code.specs.Slots.{slots_in}
use Rattle.slot_code.specs.Programs.{code_of}
use Rattle.slot_code.specs.Values.{Link}
use Rattle.cfg_build.specs.Ranges.{range_of}
use Rattle.cfg_build.specs.Graphs.{program_code}

-- a function without a place
abbrev pub nowhere : ℕ → Link
nowhere function = record { function = function; entry = 0; slot = 0 }

abbrev type_of : (A : Type 0) → A → Type 0
type_of A x = A

-- where the code and the slots of a function stand
abbrev pub Range : Type 0
Range = type_of _ (range_of (nowhere 0) 0 0)

abbrev pub links_of : Parts → List ℕ → List Link
links_of t order = (code_of (tree_of t) order).links

-- It is that of one of these links, the newest first: their code and slots go up to those of the next one, those of the newest up to an
-- end and a bound.
abbrev pub IsRangeIn : (end bound : ℕ) → List Link → Range → Type 0
IsRangeIn end bound [] r = ⊥
IsRangeIn end bound (l ∷ ls) r = (r ≡ range_of l end bound) ⊎ IsRangeIn l.entry l.slot ls r

-- of one of a program's functions in this order
abbrev pub IsRangeOf : Parts → List ℕ → Range → Type 0
IsRangeOf t order r = IsRangeIn (length (program_code t order)) (slots_in (program_code t order)) (links_of t order) r

-- the instruction stands at a place of the range
pub record IsAt (code : List Instruction) (r : Range) (place : ℕ) (x : Instruction) : Type 0 where
  pub from : r.entry ≤ place
  pub to : place < r.end
  pub there : slice_get code place ≡ Some x

-- so many ranges without a place, for the functions from a number on
abbrev pub no_ranges : ℕ → ℕ → List Range
no_ranges number zero = []
no_ranges number (suc n) = range_of (nowhere number) 0 0 ∷ no_ranges (suc number) n

-- with those of these links
abbrev pub with_ranges : List Range → (end bound : ℕ) → List Link → List Range
with_ranges ranges end bound [] = ranges
with_ranges ranges end bound (l ∷ ls) = slice_set (with_ranges ranges l.entry l.slot ls) l.function (range_of l end bound)

-- one for each function, by its number
abbrev pub program_ranges : Parts → List ℕ → List Range
program_ranges t order =
    with_ranges (no_ranges 0 (length (tree_of t).functions)) (length (program_code t order)) (slots_in (program_code t order)) (links_of t order)

-- the newest of these functions whose code begins at a place
abbrev pub function_at : ℕ → List Link → Option ℕ
function_at place [] = None
function_at place (l ∷ ls) = if nat_eq l.entry place then Some l.function else function_at place ls
