-- What the words of runs keep.
use Rattle.std.specs.Prelude.{◌≡◌, ℕ, ◌<◌, ◌≤◌, List, length, ℤ, pos, negsuc}
use Rattle.lv_base.specs.declared.fault.ErrorKind.TheVariants as error
use Rattle.c_run.specs.Run.{State, Value, Stop, Error, element, located, padded}

-- An index finds its element where the array has it, and is the error anywhere else.
pub record Indexed (at object count : ℕ) (st : State) : Type 0 where
  pub within : (i : ℕ) → i < count → located at object count (pos i) st ≡ Value (element object i) st
  pub past : (i : ℕ) → count ≤ i → located at object count (pos i) st ≡ Stop (Error error.Index at st.taken)
  pub negative : (i : ℕ) → located at object count (negsuc i) st ≡ Stop (Error error.Index at st.taken)

abbrev pub EachIndex : Type 0
EachIndex = (at object count : ℕ) (st : State) → Indexed at object count st

-- An array has all its elements, whatever its list gives.
abbrev pub Filled : Type 0
Filled = (count : ℕ) (values : List ℤ) → length values ≤ count → length (padded count values) ≡ count
