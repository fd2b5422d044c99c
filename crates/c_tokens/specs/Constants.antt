-- Integer constants (C11 6.4.4.1) and character constants (6.4.4.4), by their bytes.
use Rattle.std.specs.Prelude.{ℕ, zero, suc, ◌≡◌, ◌≢◌, ◌+◌, ◌*◌, ◌^◌, ◌<◌, ◌⊎◌, List, [], ◌∷◌, ◌++◌, codes, Bool, true, false, Some, ℤ, pos}
use Rattle.c_lexer.specs.Bytes.{is_plain}
use Rattle.c_lexer.specs.Constants.{digit_worth, is_digit_of, escape_of}
use Rattle.c_lexer.specs.declared.token.NumberForm.{NumberForm}
use Rattle.c_tokens.specs.Spans.{Each}

pub data Radix : Type 0 where
  Decimal : Radix
  Octal : Radix
  Hexadecimal : Radix

abbrev pub base : Radix → ℕ
base Decimal = 10
base Octal = 8
base Hexadecimal = 16

abbrev pub is_decimal : Radix → Bool
is_decimal Decimal = true
is_decimal Octal = false
is_decimal Hexadecimal = false

-- at least one digit, which a decimal constant does not begin with 0 and an octal one does
abbrev pub IsFirst : Radix → List ℕ → Type 0
IsFirst radix [] = ⊥
IsFirst Decimal (d ∷ digits) = d ≢ 48
IsFirst Octal (d ∷ digits) = d ≡ 48
IsFirst Hexadecimal (d ∷ digits) = Unit {0}

-- what stands before the digits
abbrev pub IsPrefix : Radix → List ℕ → Type 0
IsPrefix Decimal text = text ≡ []
IsPrefix Octal text = text ≡ []
IsPrefix Hexadecimal text = (text ≡ codes "0x") ⊎ (text ≡ codes "0X")

abbrev pub IsUnsigned : List ℕ → Type 0
IsUnsigned text = (text ≡ codes "u") ⊎ (text ≡ codes "U")

-- so many `l`, or so many `L`
abbrev pub IsLongs : ℕ → List ℕ → Type 0
IsLongs zero text = text ≡ []
IsLongs (suc zero) text = (text ≡ codes "l") ⊎ (text ≡ codes "L")
IsLongs (suc (suc zero)) text = (text ≡ codes "ll") ⊎ (text ≡ codes "LL")
IsLongs (suc (suc (suc n))) text = ⊥

-- a suffix, by whether it has a `u` and how many `l`, each part at most once and in either order
abbrev pub IsSuffix : Bool → ℕ → List ℕ → Type 0
IsSuffix false longs text = IsLongs longs text
IsSuffix true longs text = (u l : List ℕ) × IsUnsigned u × IsLongs longs l × ((text ≡ u ++ l) ⊎ (text ≡ l ++ u))

-- the number that digits spell behind a number of this value, the highest first
abbrev pub number_of : ℕ → ℕ → List ℕ → ℕ
number_of base value [] = value
number_of base value (d ∷ digits) = number_of base (value * base + digit_worth d) digits

-- an integer constant with its value, at most 2^64 - 1, and its form; a decimal one without `u` is at most 2^63 - 1
pub record IsConstant (value : ℕ) (form : NumberForm) (text : List ℕ) : Type 0 where
  pub radix : Radix
  pub prefix : List ℕ
  pub digits : List ℕ
  pub suffix : List ℕ
  pub written : text ≡ prefix ++ (digits ++ suffix)
  pub prefixed : IsPrefix radix prefix
  pub first : IsFirst radix digits
  pub each : Each (is_digit_of (base radix)) digits
  pub suffixed : IsSuffix form.unsigned_suffix form.longs suffix
  pub spells : value ≡ number_of (base radix) 0 digits
  pub fits : value < 2 ^ 64
  pub decimal : form.decimal ≡ is_decimal radix
  pub signed : form.decimal ≡ true → form.unsigned_suffix ≡ false → value < 2 ^ 63

-- a character constant with its value: a byte that stands for itself, or an escape
abbrev pub IsCharacter : ℤ → List ℕ → Type 0
IsCharacter value text =
    ((b : ℕ) × (text ≡ 39 ∷ b ∷ 39 ∷ []) × (is_plain b ≡ true) × (value ≡ pos b))
    ⊎ ((b : ℕ) × (text ≡ 39 ∷ 92 ∷ b ∷ 39 ∷ []) × (escape_of b ≡ Some value))
