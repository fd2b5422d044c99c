-- Bytes of a source as text: one byte for each, so that columns stay.
use Rattle.std.specs.Prelude.{ℕ, ◌-◌, min, Bool, not, ◌&&◌, ◌||◌, ◌==◌, nat_le, if◌then◌else◌, List, [], ◌∷◌, ◌++◌, length, take, drop, map, Option, None, Some}
use Rattle.std.specs.List.{prefix_len, suffix_len}
use Rattle.std.specs.Char.{is_ascii_whitespace}
use Rattle.lv_base.specs.declared.place.Place.{Place}
use Rattle.lv_base.specs.Place.{place_at}
use Rattle.trace_texts.specs.Failures.{caret}
use Rattle.trace_lines.specs.declared.excerpts.Class.{Class}
use Rattle.trace_lines.specs.declared.excerpts.Class.TheVariants.{Blank, Name, Line}

abbrev pub is_in_order : ℕ → ℕ → ℕ → Bool
is_in_order first second third = nat_le first second && nat_le second third

-- a blank, a tab, or what ends a line or a page
abbrev pub is_blank : ℕ → Bool
is_blank byte = (byte == 32) || is_in_order 9 byte 13

abbrev pub is_letter : ℕ → Bool
is_letter byte = is_in_order 65 byte 90 || is_in_order 97 byte 122

-- a letter, a digit or `_`
abbrev pub is_in_name : ℕ → Bool
is_in_name byte = is_letter byte || (is_in_order 48 byte 57 || (byte == 95))

abbrev pub is_of : Class → ℕ → Bool
is_of Blank byte = is_blank byte
is_of Name byte = is_in_name byte
is_of Line byte = not (byte == 10)

-- printable bytes as they are
abbrev pub shown_byte : ℕ → ℕ
shown_byte byte = if is_in_order 32 byte 126 then byte else if is_blank byte then 32 else 63

abbrev pub shown : List ℕ → List ℕ
shown bytes = map shown_byte bytes

-- the name at the front
abbrev pub name_in : List ℕ → List ℕ
name_in bytes = take (prefix_len is_in_name bytes) bytes

abbrev pub trimmed_end : List ℕ → List ℕ
trimmed_end bytes = take (length bytes - suffix_len is_ascii_whitespace bytes) bytes

-- without blanks around it
abbrev pub trimmed : List ℕ → List ℕ
trimmed bytes = trimmed_end (drop (prefix_len is_ascii_whitespace bytes) bytes)

-- what stands from one offset up to another
abbrev pub range_of : List ℕ → ℕ → ℕ → List ℕ
range_of source start end = take (end - start) (drop start source)

-- nothing where it isn't in the source
abbrev pub between : List ℕ → ℕ → ℕ → List ℕ
between source start end = if is_in_order start end (length source) then trimmed (range_of source start end) else []

-- ---- The line around an offset

-- an offset of a source that is not too long, or its end
abbrev pub is_within : List ℕ → ℕ → Bool
is_within source at = is_in_order at (length source) 1048576

abbrev pub place_in : List ℕ → ℕ → Option Place
place_in source at = if is_within source at then Some (place_at source at) else None

-- so many bytes of the line of these bytes' end, and of that of their beginning
abbrev pub last_line : List ℕ → List ℕ
last_line bytes = drop (length bytes - min (suffix_len (is_of Line) bytes) 100) bytes

abbrev pub first_line : List ℕ → List ℕ
first_line bytes = take (min (prefix_len (is_of Line) bytes) 100) bytes

-- the line around an offset, and a mark below that byte
abbrev pub mark_at : List ℕ → ℕ → List ℕ
mark_at source at = shown (last_line (take at source)) ++ shown (first_line (drop at source)) ++ (10 ∷ []) ++ caret (length (last_line (take at source)))

abbrev pub mark : List ℕ → ℕ → List ℕ
mark source at = if is_within source at then mark_at source at else []
