-- Lines and columns of a source.
use Rattle.std.specs.Prelude.{ℕ, ◌+◌, List, Bool, ◌==◌, not, take, count_by}
use Rattle.std.specs.List.{suffix_len}
use Rattle.lv_base.specs.declared.place.Place.{Place}

-- a line ends with the byte 0x0A
abbrev pub is_line_end : ℕ → Bool
is_line_end byte = byte == 10

-- the number of the line after these bytes, from 1
abbrev pub line_after : List ℕ → ℕ
line_after before = count_by is_line_end before + 1

-- the column after these bytes, from 1: one more than the bytes after the last line end
abbrev pub column_after : List ℕ → ℕ
column_after before = suffix_len (λ byte. not (is_line_end byte)) before + 1

abbrev pub place_at : List ℕ → ℕ → Place
place_at source offset = record { line = line_after (take offset source); column = column_after (take offset source) }
