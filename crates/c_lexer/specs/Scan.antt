-- How far a word, a number, a string, a comment or a line goes.
use Rattle.std.specs.Prelude.{ℕ, ◌+◌, List, [], ◌∷◌, Bool, true, false, not, ◌==◌, if◌then◌else◌, Option, Some, None}
use Rattle.std.specs.List.{prefix_len}
use Rattle.c_lexer.specs.Bytes.{is_word_byte, is_line_end, goes_on}

abbrev pub word_width : List ℕ → ℕ
word_width bytes = prefix_len is_word_byte bytes

-- the bytes up to the line's end
abbrev pub line_width : List ℕ → ℕ
line_width bytes = prefix_len (λ b. not (is_line_end b)) bytes

-- how many bytes a number of the preprocessor has, of which so many were read, the last of them this one
abbrev pub number_from : ℕ → ℕ → List ℕ → ℕ
number_from width before [] = width
number_from width before (b ∷ bytes) = if goes_on before b then number_from (width + 1) b bytes else width

-- where a string or a character constant is closed by this quote, so many bytes having been read, the last of them a
-- `\` that takes the next byte with it; none where the line ends first
abbrev pub closed_at : ℕ → Bool → ℕ → List ℕ → Option ℕ
closed_at quote escaped width [] = None
closed_at quote escaped width (b ∷ bytes) =
    if is_line_end b then None else
    if escaped then closed_at quote false (width + 1) bytes else
    if b == quote then Some (width + 1) else
    closed_at quote (b == 92) (width + 1) bytes

-- where a comment that began with `/*` ends with `*/`, so many bytes having been read, the last of them a `*` of its own
abbrev pub comment_end : Bool → ℕ → List ℕ → Option ℕ
comment_end star width [] = None
comment_end true width (b ∷ bytes) = if b == 47 then Some (width + 1) else comment_end (b == 42) (width + 1) bytes
comment_end false width (b ∷ bytes) = comment_end (b == 42) (width + 1) bytes
