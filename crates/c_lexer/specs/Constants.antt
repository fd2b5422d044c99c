-- Integer constants (C11 6.4.4.1) and character constants (6.4.4.4).
use Rattle.std.specs.Prelude.{ℕ, ◌+◌, ◌-◌, ◌*◌, ◌^◌, List, [], ◌∷◌, length, take, drop, Bool, true, false, not, ◌==◌, ◌&&◌, ◌||◌, nat_le, nat_lt, if◌then◌else◌, Option, Some, None, ℤ, pos, slice_index}
use Rattle.std.specs.List.{prefix_len}
use Rattle.std.specs.Option.{option_and_then}
use Rattle.c_lexer.specs.Bytes.{is_digit, is_between, is_plain}
use Rattle.c_lexer.specs.declared.token.NumberForm.{NumberForm}

-- what a byte is worth as a digit; 16 where it is none
abbrev pub digit_worth : ℕ → ℕ
digit_worth byte =
    if is_digit byte then byte - 48 else
    if is_between 97 102 byte then byte - 87 else
    if is_between 65 70 byte then byte - 55 else
    16

abbrev pub is_digit_of : ℕ → ℕ → Bool
is_digit_of base byte = nat_lt (digit_worth byte) base

-- the number that these digits spell after a number of this value; none where it is 2^64 or more
abbrev pub value_from : ℕ → ℕ → List ℕ → Option ℕ
value_from base value [] = Some value
value_from base value (d ∷ digits) = if nat_lt (value * base + digit_worth d) (2 ^ 64) then value_from base (value * base + digit_worth d) digits else None

-- a suffix by its letters: whether it has a `u`, and how many `l`
abbrev pub is_u : ℕ → Bool
is_u byte = (byte == 117) || (byte == 85)

-- how many letters the length suffix at the front has: `ll` and `LL` two, `l` and `L` one
abbrev pub longs_of : List ℕ → ℕ
longs_of [] = 0
longs_of (a ∷ []) = if (a == 108) || (a == 76) then 1 else 0
longs_of (a ∷ b ∷ bytes) = if (a == 108) || (a == 76) then (if b == a then 2 else 1) else 0

abbrev pub after_u : List ℕ → Option (Bool × ℕ)
after_u rest = if longs_of rest == length rest then Some (true, longs_of rest) else None

abbrev pub after_longs : ℕ → List ℕ → Option (Bool × ℕ)
after_longs longs [] = Some (false, longs)
after_longs longs (b ∷ []) = if is_u b then Some (true, longs) else None
after_longs longs (b ∷ c ∷ rest) = None

-- a suffix: whether it has a `u`, and how many `l`; each part at most once, in either order
abbrev pub suffix_of : List ℕ → Option (Bool × ℕ)
suffix_of [] = Some (false, 0)
suffix_of (a ∷ bytes) = if is_u a then after_u bytes else after_longs (longs_of (a ∷ bytes)) (drop (longs_of (a ∷ bytes)) (a ∷ bytes))

-- 16 after `0x` or `0X`, 8 after another 0, else 10
abbrev pub base_of : List ℕ → ℕ
base_of text = if slice_index text 0 == 48 then (if (slice_index text 1 == 120) || (slice_index text 1 == 88) then 16 else 8) else 10

-- the bytes before the digits
abbrev pub start_of : List ℕ → ℕ
start_of text = if base_of text == 16 then 2 else 0

abbrev pub digits_end : List ℕ → ℕ
digits_end text = start_of text + prefix_len (is_digit_of (base_of text)) (drop (start_of text) text)

abbrev pub digits_of : List ℕ → List ℕ
digits_of text = take (digits_end text - start_of text) (drop (start_of text) text)

-- a decimal constant without `u` has a signed type, which holds values below 2^63
abbrev pub formed : Bool → ℕ → Bool × ℕ → Option (ℕ × NumberForm)
formed decimal value suffix =
    if decimal && not suffix.0 && nat_le (2 ^ 63) value then None else
    Some (value, record { decimal = decimal; unsigned_suffix = suffix.0; longs = suffix.1 })

-- the value and the form of an integer constant, none where the text is none
abbrev pub constant_of : List ℕ → Option (ℕ × NumberForm)
constant_of text =
    if digits_end text == start_of text then None else
    option_and_then (λ value. option_and_then (formed (base_of text == 10) value) (suffix_of (drop (digits_end text) text))) (value_from (base_of text) 0 (digits_of text))

-- what a `\` and this byte stand for
abbrev pub escape_of : ℕ → Option ℤ
escape_of byte =
    if byte == 110 then Some (pos 10) else
    if byte == 116 then Some (pos 9) else
    if byte == 114 then Some (pos 13) else
    if byte == 48 then Some (pos 0) else
    if (byte == 92) || (byte == 39) || (byte == 34) then Some (pos byte) else
    None

-- the value of a character constant, quotes and all, none where it is of another form
abbrev pub letter_of : List ℕ → Option ℤ
letter_of text =
    if (length text == 3) && is_plain (slice_index text 1) then Some (pos (slice_index text 1)) else
    if (length text == 4) && (slice_index text 1 == 92) then escape_of (slice_index text 2) else
    None
