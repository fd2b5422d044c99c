-- A byte more of words or of a number.
use Rattle.std.specs.Prelude.{ℕ, ◌+◌, ◌-◌, ◌*◌, List, length, slice_index, ◌==◌, ◌&&◌, ◌||◌, nat_le, nat_lt, if◌then◌else◌, Option, Some, None}
use Rattle.cert_text.specs.declared.place.Part.{Part}
use Rattle.cert_text.specs.declared.place.Part.TheVariants.{Fresh, Matched, Digits, WideDigits}
use Rattle.cert_text.specs.declared.field.More.{More}
use Rattle.cert_text.specs.declared.field.More.TheVariants.{Refused, Part as MPart, Text, Number, Wide}

abbrev pub digit_of : ℕ → Option ℕ
digit_of byte = if nat_lt byte 48 || nat_lt 57 byte then None else Some (byte - 48)

abbrev pub hex_value : ℕ → Option ℕ
hex_value byte =
    if nat_le 48 byte && nat_le byte 57 then Some (byte - 48) else
    if nat_le 97 byte && nat_le byte 102 then Some (byte - 87) else
    None

-- words of which `at` bytes were read
abbrev pub text_more : List ℕ → ℕ → ℕ → More
text_more text at byte =
    if nat_le (length text) at then Refused else
    if slice_index text at == byte then (if at + 1 == length text then Text else MPart (Matched (at + 1))) else
    Refused

-- a digit behind the digits of a number: no zero stands at first but alone, and there is a greatest number
abbrev pub digit_more : ℕ → ℕ → ℕ → Option ℕ
digit_more most value digit =
    if value == 0 then None else
    if nat_lt most (value * 10 + digit) then None else
    Some (value * 10 + digit)

abbrev pub longer : (ℕ → Part) → Option ℕ → More
longer digits None = Refused
longer digits (Some value) = MPart (digits value)

abbrev pub digit_part : Part → ℕ → More
digit_part Fresh digit = MPart (Digits digit)
digit_part (Matched at) digit = Refused
digit_part (Digits value) digit = longer (λ v. Digits v) (digit_more 4294967295 value digit)
digit_part (WideDigits value) digit = Refused

abbrev pub wide_digit_part : Part → ℕ → More
wide_digit_part Fresh digit = MPart (WideDigits digit)
wide_digit_part (Matched at) digit = Refused
wide_digit_part (Digits value) digit = Refused
wide_digit_part (WideDigits value) digit = longer (λ v. WideDigits v) (digit_more 340282366920938463463374607431768211455 value digit)

abbrev pub number_end : Part → More
number_end Fresh = Refused
number_end (Matched at) = Refused
number_end (Digits value) = Number value
number_end (WideDigits value) = Refused

abbrev pub wide_end : Part → More
wide_end Fresh = Refused
wide_end (Matched at) = Refused
wide_end (Digits value) = Refused
wide_end (WideDigits value) = Wide value

abbrev pub by_digit : Option ℕ → (ℕ → More) → More → More
by_digit None f m = m
by_digit (Some d) f m = f d

-- a digit more, or the byte behind the number
abbrev pub number_more : Part → ℕ → More
number_more part byte = by_digit (digit_of byte) (λ d. digit_part part d) (number_end part)

abbrev pub wide_more : Part → ℕ → More
wide_more part byte = by_digit (digit_of byte) (λ d. wide_digit_part part d) (wide_end part)
