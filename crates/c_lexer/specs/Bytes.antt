-- Classes of bytes.
use Rattle.std.specs.Prelude.{ℕ, Bool, ◌==◌, ◌||◌, ◌&&◌, not, nat_le}

abbrev pub is_between : ℕ → ℕ → ℕ → Bool
is_between low high byte = nat_le low byte && nat_le byte high

-- a space, or one of the five blanks from the tab to the carriage return
abbrev pub is_blank : ℕ → Bool
is_blank byte = (byte == 32) || is_between 9 13 byte

-- the line's end
abbrev pub is_line_end : ℕ → Bool
is_line_end byte = byte == 10

-- a blank that may stand before the `#` of a marker line: a space or a tab
abbrev pub is_indent : ℕ → Bool
is_indent byte = (byte == 32) || (byte == 9)

-- C11 6.4.2.1
abbrev pub is_letter : ℕ → Bool
is_letter byte = is_between 65 90 byte || is_between 97 122 byte || (byte == 95)

abbrev pub is_digit : ℕ → Bool
is_digit byte = is_between 48 57 byte

abbrev pub is_word_byte : ℕ → Bool
is_word_byte byte = is_letter byte || is_digit byte

-- `+` or `-`
abbrev pub is_sign : ℕ → Bool
is_sign byte = (byte == 43) || (byte == 45)

-- `e`, `E`, `p` or `P`, after which a number of the preprocessor may go on with a sign
abbrev pub is_exponent : ℕ → Bool
is_exponent byte = (byte == 101) || (byte == 69) || (byte == 112) || (byte == 80)

-- what a number of the preprocessor goes on with, after this byte (C11 6.4.8)
abbrev pub goes_on : ℕ → ℕ → Bool
goes_on before byte = is_word_byte byte || (byte == 46) || (is_exponent before && is_sign byte)

-- the byte of a character constant that stands for itself
abbrev pub is_plain : ℕ → Bool
is_plain byte = is_between 32 126 byte && not (byte == 39) && not (byte == 92)
