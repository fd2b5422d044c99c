-- Run files, as they are written.
use Rattle.std.specs.Prelude.{ℕ, suc, ◌+◌, ◌≡◌, ◌<◌, ◌^◌, List, [], ◌∷◌, ◌++◌, map, ◌==◌, if◌then◌else◌, ℤ, pos, negsuc, unsigned_abs, codes}
use Rattle.std.specs.Int.Digits.{digits_of}

-- the decimal digits of a number, without leading zeros
abbrev pub number_text : ℕ → List ℕ
number_text n = if n == 0 then codes "0" else map (λ d. 48 + d) (digits_of 10 n)

-- a value: its digits, behind a `-` where it is negative
abbrev pub value_text : ℤ → List ℕ
value_text (pos n) = number_text n
value_text (negsuc n) = 45 ∷ number_text (suc n)

-- one line for each value
abbrev pub lines_text : List ℤ → List ℕ
lines_text [] = []
lines_text (v ∷ values) = value_text v ++ 10 ∷ lines_text values

abbrev pub run_text : List ℤ → List ℕ
run_text values = codes "run 1" ++ 10 ∷ lines_text values

-- no value has more than twenty digits
abbrev pub AreShort : List ℤ → Type 0
AreShort [] = Unit {0}
AreShort (v ∷ values) = (unsigned_abs v < 10 ^ 20) × AreShort values

-- a file is the run text of these values, however many they are
abbrev pub Spells : List ℤ → List ℕ → Type 0
Spells values file = (file ≡ run_text values) × AreShort values

-- some run text goes on from these bytes
abbrev pub GoesOn : List ℕ → Type 0
GoesOn front = (more : List ℕ) × (values : List ℤ) × Spells values (front ++ more)
