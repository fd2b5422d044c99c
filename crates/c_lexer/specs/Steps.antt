-- What stands first in the rest of a source.
use Rattle.std.specs.Prelude.{ℕ, ◌+◌, ◌<◌, ◌≤◌, List, [], ◌∷◌, length, take, drop, Bool, true, false, not, ◌==◌, ◌&&◌, ◌||◌, if◌then◌else◌, Option, Some, None, ℤ, slice_index, codes}
use Rattle.std.specs.Str.{bytes_eq}
use Rattle.std.specs.List.{prefix_len}
use Rattle.lv_base.specs.declared.fault.SourceFault.TheVariants.{BadByte, Unclosed, Directive, BadNumber}
use Rattle.c_lexer.specs.Bytes.{is_blank, is_indent, is_line_end, is_letter, is_digit}
use Rattle.c_lexer.specs.Constants.{constant_of, letter_of}
use Rattle.c_lexer.specs.Marks.{mark_of_one, mark_of_two, mark_of_three}
use Rattle.c_lexer.specs.Scan.{word_width, line_width, number_from, closed_at, comment_end}
use Rattle.c_lexer.specs.declared.token.Mark.{Mark}
use Rattle.c_lexer.specs.declared.token.NumberForm.{NumberForm}
use Rattle.c_lexer.specs.declared.token.TokenKind.TheVariants.{Word, Number, Letter, Str, Mark as AMark}
use Rattle.c_lexer.specs.declared.step.Step.{Step}
use Rattle.c_lexer.specs.declared.step.Step.TheVariants.{Skip, Token, Fault}

abbrev pub word_step : List ℕ → Step
word_step rest = Token (Word (take (word_width rest) rest)) (word_width rest)

abbrev pub number_step_of : Option (ℕ × NumberForm) → ℕ → Step
number_step_of None width = Fault BadNumber
number_step_of (Some found) width = Token (Number found.0 found.1) width

abbrev pub number_step : List ℕ → Step
number_step rest =
    number_step_of (constant_of (take (number_from 1 (slice_index rest 0) (drop 1 rest)) rest)) (number_from 1 (slice_index rest 0) (drop 1 rest))

abbrev pub string_step_of : Option ℕ → Step
string_step_of None = Fault Unclosed
string_step_of (Some width) = Token Str (width + 1)

abbrev pub string_step : List ℕ → Step
string_step rest = string_step_of (closed_at 34 false 0 (drop 1 rest))

abbrev pub letter_step_of : Option ℤ → ℕ → Step
letter_step_of None width = Fault BadNumber
letter_step_of (Some value) width = Token (Letter value) width

abbrev pub closed_letter_step : Option ℕ → List ℕ → Step
closed_letter_step None rest = Fault Unclosed
closed_letter_step (Some width) rest = letter_step_of (letter_of (take (width + 1) rest)) (width + 1)

abbrev pub letter_step : List ℕ → Step
letter_step rest = closed_letter_step (closed_at 39 false 0 (drop 1 rest)) rest

-- the blanks of a marker line after its `#`
abbrev pub is_gap : ℕ → Bool
is_gap byte = is_blank byte && not (is_line_end byte)

abbrev pub is_marker_word : List ℕ → Bool
is_marker_word word = bytes_eq word (codes "line") || bytes_eq word (codes "pragma") || bytes_eq word (codes "ident")

-- what comes after the `#` of a marker line and its blanks: the line's end, a digit, or one of three words
abbrev pub is_marker : List ℕ → Bool
is_marker [] = true
is_marker (b ∷ rest) = is_line_end b || is_digit b || is_marker_word (take (word_width (b ∷ rest)) (b ∷ rest))

-- a `#` that blanks alone stand before in its line begins a marker line, or it is no line of the subset
abbrev pub marker_step : Bool → List ℕ → Step
marker_step fresh rest =
    if not fresh then Fault BadByte else
    if is_marker (drop (prefix_len is_gap (drop 1 rest)) (drop 1 rest)) then Skip (line_width rest) false else
    Fault Directive

abbrev pub comment_step_of : Option ℕ → Step
comment_step_of None = Fault Unclosed
comment_step_of (Some width) = Skip (width + 2) false

abbrev pub mark_step_of : Option Mark → ℕ → Step → Step
mark_step_of None width other = other
mark_step_of (Some mark) width other = Token (AMark mark) width

-- the longest mark, the bytes after the source's end being 0
abbrev pub mark_step : List ℕ → Step
mark_step rest =
    mark_step_of (mark_of_three (slice_index rest 0) (slice_index rest 1) (slice_index rest 2)) 3
    (mark_step_of (mark_of_two (slice_index rest 0) (slice_index rest 1)) 2
    (mark_step_of (mark_of_one (slice_index rest 0)) 1 (Fault BadByte)))

-- a number of the preprocessor begins with these bytes (C11 6.4.8)
abbrev pub begins_number : ℕ → ℕ → Bool
begins_number first second = is_digit first || ((first == 46) && is_digit second)

-- where neither a blank nor a word nor a number stands first: a string, a character, a line of the preprocessor, a
-- comment, which goes before a mark, or a mark
abbrev pub symbol_step : Bool → List ℕ → Step
symbol_step fresh rest =
    if slice_index rest 0 == 34 then string_step rest else
    if slice_index rest 0 == 39 then letter_step rest else
    if slice_index rest 0 == 35 then marker_step fresh rest else
    if (slice_index rest 0 == 47) && (slice_index rest 1 == 42) then comment_step_of (comment_end false 0 (drop 2 rest)) else
    if (slice_index rest 0 == 47) && (slice_index rest 1 == 47) then Skip (line_width rest) false else
    mark_step rest

-- What stands first in the rest of a source, where it is told whether blanks alone stand before it in its line: something
-- to skip, a token, or a fault.
abbrev pub step_of : Bool → List ℕ → Step
step_of fresh rest =
    if is_blank (slice_index rest 0) then Skip 1 (is_line_end (slice_index rest 0) || (fresh && is_indent (slice_index rest 0))) else
    if is_letter (slice_index rest 0) then word_step rest else
    if begins_number (slice_index rest 0) (slice_index rest 1) then number_step rest else
    symbol_step fresh rest

-- a step passes at least one byte, and none that isn't there
abbrev pub FitsIn : List ℕ → Step → Type 0
FitsIn rest (Skip width fresh) = (0 < width) × (width ≤ length rest)
FitsIn rest (Token kind width) = (0 < width) × (width ≤ length rest)
FitsIn rest (Fault fault) = Unit {0}
