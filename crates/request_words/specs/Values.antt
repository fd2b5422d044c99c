-- Names, and the values of options.
use Rattle.std.specs.Prelude.{ℕ, ◌≡◌, ◌≤◌, ◌↔◌, ◌+◌, ◌-◌, ◌*◌, List, [], ◌∷◌, Bool, false, not, ◌&&◌, ◌||◌, ◌==◌, nat_le, length, slice_index, if◌then◌else◌, Option, Some, None, codes}
use Rattle.std.specs.List.{list_all}
use Rattle.std.specs.Fmt.{decimal}
use Rattle.std.specs.Str.{bytes_eq}
use Rattle.lv_base.specs.declared.kind.Model.{Model}
use Rattle.lv_base.specs.declared.kind.Model.TheVariants.{Ilp32, Lp64}

abbrev pub is_name_byte : ℕ → Bool
is_name_byte byte = nat_le 32 byte && not (byte == 127)

-- a name is not empty, does not begin with `-`, and has no byte below 0x20 and no 0x7F
abbrev pub is_name_of : List ℕ → Bool
is_name_of bytes = if (length bytes == 0) || (slice_index bytes 0 == 45) then false else list_all is_name_byte bytes

abbrev pub model_of : List ℕ → Option Model
model_of bytes = if bytes_eq bytes (codes "ilp32") then Some Ilp32 else if bytes_eq bytes (codes "lp64") then Some Lp64 else None

-- ---- Numbers

-- behind digits of this value; a number above the most is none
abbrev pub digit_added : ℕ → ℕ → ℕ → Option ℕ
digit_added most n byte = if nat_le 48 byte && nat_le byte 57 && nat_le (n * 10 + (byte - 48)) most then Some (n * 10 + (byte - 48)) else None

abbrev pub number_behind : ℕ → Option ℕ → List ℕ → Option ℕ
number_behind most n [] = n
number_behind most None (byte ∷ bytes) = None
number_behind most (Some n) (byte ∷ bytes) = number_behind most (digit_added most n byte) bytes

-- decimal digits without leading zeros, from 1 to the most
abbrev pub number_of : ℕ → List ℕ → Option ℕ
number_of most bytes = if (length bytes == 0) || (slice_index bytes 0 == 48) then None else number_behind most (Some 0) bytes

-- a seed, from 0 to 4294967295
abbrev pub seed_of : List ℕ → Option ℕ
seed_of bytes = if bytes_eq bytes (codes "0") then Some 0 else number_of 4294967295 bytes

-- so a number is told by its decimal digits alone
abbrev pub NumbersAreRead : Type 0
NumbersAreRead = (most : ℕ) (bytes : List ℕ) (n : ℕ) → most ≤ 4294967295 → (number_of most bytes ≡ Some n) ↔ ((bytes ≡ decimal n) × (1 ≤ n) × (n ≤ most))

abbrev pub SeedsAreRead : Type 0
SeedsAreRead = (bytes : List ℕ) (n : ℕ) → (seed_of bytes ≡ Some n) ↔ ((bytes ≡ decimal n) × (n ≤ 4294967295))
