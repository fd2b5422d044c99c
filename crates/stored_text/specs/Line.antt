-- A line of a run file.
use Rattle.std.specs.Prelude.{ℕ, ◌+◌, ◌-◌, ◌*◌, Bool, true, false, not, ◌&&◌, ◌||◌, ◌==◌, nat_le, nat_lt, if◌then◌else◌, Option, Some, None, ℤ, pos, neg_ℤ}
use Rattle.stored_text.specs.declared.line.Line.{Line}
use Rattle.stored_text.specs.declared.line.Next.{Next}
use Rattle.stored_text.specs.declared.line.Next.TheVariants.{Refused, Full, Value, Part}

abbrev pub line_of : Bool → Bool → ℕ → Line
line_of negative empty value = record { negative = negative; empty = empty; value = value }

abbrev pub fresh_line : Line
fresh_line = line_of false true 0

abbrev pub is_fresh : Line → Bool
is_fresh line = not line.negative && line.empty

-- one byte more: a `-` at first, or a digit, of which there are at most twenty; no zero stands at first but alone, and
-- none behind a `-`
abbrev pub line_step : Line → ℕ → Option Line
line_step line byte =
    if byte == 45 then (if line.negative || not line.empty then None else Some (line_of true true 0)) else
    if nat_lt byte 48 || nat_lt 57 byte then None else
    if (not line.empty && (line.value == 0)) || nat_le 10000000000000000000 line.value then None else
    if line.negative && (line.empty && (byte == 48)) then None else
    Some (line_of line.negative false (line.value * 10 + (byte - 48)))

-- what the line says at its end, if it has digits
abbrev pub line_value : Line → Option ℤ
line_value line =
    if line.empty then None else
    if line.negative then Some (neg_ℤ (pos line.value)) else Some (pos line.value)

-- what a byte makes of a line, where no further line may begin if `full`
abbrev pub ended : Bool → Option ℤ → Next
ended full None = Refused
ended full (Some v) = if full then Full else Value v

abbrev pub parted : Bool → Option Line → Next
parted full None = Refused
parted full (Some line) = if full then Full else Part line

abbrev pub next_of : Bool → Line → ℕ → Next
next_of full line byte = if byte == 10 then ended full (line_value line) else parted full (line_step line byte)
