-- What stands first in the rest of a source, as the lexer's definition says it.
use Rattle.std.proofs.Common.{◌≡◌, ℕ, ◌+◌, List, [], ◌∷◌, ◌++◌, length, take, drop, refl, Bool, true, false}
use Rattle.std.specs.Prelude.{◌==◌, ◌||◌, ◌&&◌, not, nat_lt, slice_index, if◌then◌else◌, Option, Some, None, Result, Err, ℤ}
use Rattle.std.specs.List.{prefix_len}
use Rattle.lv_base.specs.declared.fail.SourceFail.{SourceFail}
use Rattle.lv_base.specs.declared.fail.SourceFail.TheVariants.{Fault as AFault, Over}
use Rattle.lv_base.specs.declared.fault.SourceFault.{SourceFault}
use Rattle.lv_base.specs.declared.fault.SourceFault.TheVariants.{BadByte, Unclosed, Directive, BadNumber}
use Rattle.c_lexer.specs.Bytes.{is_blank, is_indent, is_line_end, is_letter}
use Rattle.c_lexer.specs.Constants.{constant_of, letter_of}
use Rattle.c_lexer.specs.Lexed.{token_of, stepped}
use Rattle.c_lexer.specs.Marks.{mark_of_one, mark_of_two, mark_of_three}
use Rattle.c_lexer.specs.Scan.{word_width, line_width, number_from, closed_at, comment_end}
use Rattle.c_lexer.specs.Steps.{number_step_of, string_step_of, letter_step_of, closed_letter_step, is_gap, is_marker, marker_step, comment_step_of, mark_step_of, begins_number, symbol_step, step_of}
use Rattle.c_lexer.specs.declared.token.Mark.{Mark}
use Rattle.c_lexer.specs.declared.token.NumberForm.{NumberForm}
use Rattle.c_lexer.specs.declared.token.Token.{Token as AToken}
use Rattle.c_lexer.specs.declared.token.TokenKind.{TokenKind}
use Rattle.c_lexer.specs.declared.token.TokenKind.TheVariants.{Word, Number, Letter, Str, Mark as AMark}

-- something to skip, a token, or a fault
pub data Sight : Type 0 where
  Skip : ℕ → Bool → Sight
  Token : TokenKind → ℕ → Sight
  Fault : SourceFault → Sight

abbrev pub word_sight : List ℕ → Sight
word_sight rest = Token (Word (take (word_width rest) rest)) (word_width rest)

abbrev pub number_sight_of : Option (ℕ × NumberForm) → ℕ → Sight
number_sight_of None width = Fault BadNumber
number_sight_of (Some found) width = Token (Number found.0 found.1) width

abbrev pub number_sight : List ℕ → Sight
number_sight rest = number_sight_of (constant_of (take (number_from 1 (slice_index rest 0) (drop 1 rest)) rest)) (number_from 1 (slice_index rest 0) (drop 1 rest))

abbrev pub string_sight_of : Option ℕ → Sight
string_sight_of None = Fault Unclosed
string_sight_of (Some width) = Token Str (width + 1)

abbrev pub string_sight : List ℕ → Sight
string_sight rest = string_sight_of (closed_at 34 false 0 (drop 1 rest))

abbrev pub letter_sight_of : Option ℤ → ℕ → Sight
letter_sight_of None width = Fault BadNumber
letter_sight_of (Some value) width = Token (Letter value) width

abbrev pub closed_letter_sight : Option ℕ → List ℕ → Sight
closed_letter_sight None rest = Fault Unclosed
closed_letter_sight (Some width) rest = letter_sight_of (letter_of (take (width + 1) rest)) (width + 1)

abbrev pub letter_sight : List ℕ → Sight
letter_sight rest = closed_letter_sight (closed_at 39 false 0 (drop 1 rest)) rest

abbrev pub marker_tail : List ℕ → Bool
marker_tail bytes = is_marker (drop (prefix_len is_gap bytes) bytes)

abbrev pub marker_sight : Bool → List ℕ → Sight
marker_sight fresh rest =
    if not fresh then Fault BadByte else
    if marker_tail (drop 1 rest) then Skip (line_width rest) false else
    Fault Directive

abbrev pub comment_sight_of : Option ℕ → Sight
comment_sight_of None = Fault Unclosed
comment_sight_of (Some width) = Skip (width + 2) false

abbrev pub mark_sight_of : Option Mark → ℕ → Sight → Sight
mark_sight_of None width other = other
mark_sight_of (Some mark) width other = Token (AMark mark) width

abbrev pub mark_sight : List ℕ → Sight
mark_sight rest =
    mark_sight_of (mark_of_three (slice_index rest 0) (slice_index rest 1) (slice_index rest 2)) 3
    (mark_sight_of (mark_of_two (slice_index rest 0) (slice_index rest 1)) 2
    (mark_sight_of (mark_of_one (slice_index rest 0)) 1 (Fault BadByte)))

abbrev pub symbol_sight : Bool → List ℕ → Sight
symbol_sight fresh rest =
    if slice_index rest 0 == 34 then string_sight rest else
    if slice_index rest 0 == 39 then letter_sight rest else
    if slice_index rest 0 == 35 then marker_sight fresh rest else
    if (slice_index rest 0 == 47) && (slice_index rest 1 == 42) then comment_sight_of (comment_end false 0 (drop 2 rest)) else
    if (slice_index rest 0 == 47) && (slice_index rest 1 == 47) then Skip (line_width rest) false else
    mark_sight rest

abbrev pub sight_of : Bool → List ℕ → Sight
sight_of fresh rest =
    if is_blank (slice_index rest 0) then Skip 1 (is_line_end (slice_index rest 0) || (fresh && is_indent (slice_index rest 0))) else
    if is_letter (slice_index rest 0) then word_sight rest else
    if begins_number (slice_index rest 0) (slice_index rest 1) then number_sight rest else
    symbol_sight fresh rest

abbrev pub Answer : Type 0
Answer = Result (List AToken) SourceFail

-- what comes of a sight, as the lexer's definition goes on
abbrev pub told : Sight → ℕ → List AToken → (ℕ → Bool → List AToken → Answer) → Answer
told (Skip width fresh) at before go = go width fresh before
told (Token kind width) at before go = if nat_lt (length before) 200000 then go width false (before ++ token_of kind at (at + width) ∷ []) else Err (Over 2 200001)
told (Fault fault) at before go = Err (AFault fault at)

module _ (at : ℕ) (before : List AToken) (go : ℕ → Bool → List AToken → Answer) where
  number_same : (o : Option (ℕ × NumberForm)) (width : ℕ) → stepped (number_step_of o width) at before go ≡ told (number_sight_of o width) at before go
  number_same None width = refl
  number_same (Some found) width = refl

  string_same : (o : Option ℕ) → stepped (string_step_of o) at before go ≡ told (string_sight_of o) at before go
  string_same None = refl
  string_same (Some width) = refl

  letter_same : (o : Option ℤ) (width : ℕ) → stepped (letter_step_of o width) at before go ≡ told (letter_sight_of o width) at before go
  letter_same None width = refl
  letter_same (Some value) width = refl

  closed_same : (o : Option ℕ) (rest : List ℕ) → stepped (closed_letter_step o rest) at before go ≡ told (closed_letter_sight o rest) at before go
  closed_same None rest = refl
  closed_same (Some width) rest = letter_same (letter_of (take (width + 1) rest)) (width + 1)

  comment_same : (o : Option ℕ) → stepped (comment_step_of o) at before go ≡ told (comment_sight_of o) at before go
  comment_same None = refl
  comment_same (Some width) = refl

  mark_same : (x y z : Option Mark) → stepped (mark_step_of x 3 (mark_step_of y 2 (mark_step_of z 1 (marker_step false [])))) at before go ≡ told (mark_sight_of x 3 (mark_sight_of y 2 (mark_sight_of z 1 (Fault BadByte)))) at before go
  mark_same (Some m) y z = refl
  mark_same None (Some m) z = refl
  mark_same None None (Some m) = refl
  mark_same None None None = refl

  marker_same : (fresh : Bool) (rest : List ℕ) → stepped (marker_step fresh rest) at before go ≡ told (marker_sight fresh rest) at before go
  marker_same false rest = refl
  marker_same true rest = by_test (marker_tail (drop 1 rest)) refl
    where
      by_test : (t : Bool) → marker_tail (drop 1 rest) ≡ t → stepped (marker_step true rest) at before go ≡ told (marker_sight true rest) at before go
      by_test true e = rw e refl
      by_test false e = rw e refl

  symbol_same : (fresh : Bool) (rest : List ℕ) → stepped (symbol_step fresh rest) at before go ≡ told (symbol_sight fresh rest) at before go
  symbol_same fresh rest = by_double (slice_index rest 0 == 34) refl
    where
      by_line : (t : Bool) → ((slice_index rest 0 == 47) && (slice_index rest 1 == 47)) ≡ t → (slice_index rest 0 == 34) ≡ false → (slice_index rest 0 == 39) ≡ false → (slice_index rest 0 == 35) ≡ false → ((slice_index rest 0 == 47) && (slice_index rest 1 == 42)) ≡ false → stepped (symbol_step fresh rest) at before go ≡ told (symbol_sight fresh rest) at before go
      by_line true e a b c d = rw (a, b, c, d, e) refl
      by_line false e a b c d = rw (a, b, c, d, e) (mark_same (mark_of_three (slice_index rest 0) (slice_index rest 1) (slice_index rest 2)) (mark_of_two (slice_index rest 0) (slice_index rest 1)) (mark_of_one (slice_index rest 0)))

      by_comment : (t : Bool) → ((slice_index rest 0 == 47) && (slice_index rest 1 == 42)) ≡ t → (slice_index rest 0 == 34) ≡ false → (slice_index rest 0 == 39) ≡ false → (slice_index rest 0 == 35) ≡ false → stepped (symbol_step fresh rest) at before go ≡ told (symbol_sight fresh rest) at before go
      by_comment true d a b c = rw (a, b, c, d) (comment_same (comment_end false 0 (drop 2 rest)))
      by_comment false d a b c = by_line ((slice_index rest 0 == 47) && (slice_index rest 1 == 47)) refl a b c d

      by_hash : (t : Bool) → (slice_index rest 0 == 35) ≡ t → (slice_index rest 0 == 34) ≡ false → (slice_index rest 0 == 39) ≡ false → stepped (symbol_step fresh rest) at before go ≡ told (symbol_sight fresh rest) at before go
      by_hash true c a b = rw (a, b, c) (marker_same fresh rest)
      by_hash false c a b = by_comment ((slice_index rest 0 == 47) && (slice_index rest 1 == 42)) refl a b c

      by_single : (t : Bool) → (slice_index rest 0 == 39) ≡ t → (slice_index rest 0 == 34) ≡ false → stepped (symbol_step fresh rest) at before go ≡ told (symbol_sight fresh rest) at before go
      by_single true b a = rw (a, b) (closed_same (closed_at 39 false 0 (drop 1 rest)) rest)
      by_single false b a = by_hash (slice_index rest 0 == 35) refl a b

      by_double : (t : Bool) → (slice_index rest 0 == 34) ≡ t → stepped (symbol_step fresh rest) at before go ≡ told (symbol_sight fresh rest) at before go
      by_double true a = rw a (string_same (closed_at 34 false 0 (drop 1 rest)))
      by_double false a = by_single (slice_index rest 0 == 39) refl a

  pub sight_same : (fresh : Bool) (rest : List ℕ) → stepped (step_of fresh rest) at before go ≡ told (sight_of fresh rest) at before go
  sight_same fresh rest = by_blank (is_blank (slice_index rest 0)) refl
    where
      by_number : (t : Bool) → begins_number (slice_index rest 0) (slice_index rest 1) ≡ t → is_blank (slice_index rest 0) ≡ false → is_letter (slice_index rest 0) ≡ false → stepped (step_of fresh rest) at before go ≡ told (sight_of fresh rest) at before go
      by_number true c a b = rw (a, b, c) (number_same (constant_of (take (number_from 1 (slice_index rest 0) (drop 1 rest)) rest)) (number_from 1 (slice_index rest 0) (drop 1 rest)))
      by_number false c a b = rw (a, b, c) (symbol_same fresh rest)

      by_letter : (t : Bool) → is_letter (slice_index rest 0) ≡ t → is_blank (slice_index rest 0) ≡ false → stepped (step_of fresh rest) at before go ≡ told (sight_of fresh rest) at before go
      by_letter true b a = rw (a, b) refl
      by_letter false b a = by_number (begins_number (slice_index rest 0) (slice_index rest 1)) refl a b

      by_blank : (t : Bool) → is_blank (slice_index rest 0) ≡ t → stepped (step_of fresh rest) at before go ≡ told (sight_of fresh rest) at before go
      by_blank true a = rw a refl
      by_blank false a = by_letter (is_letter (slice_index rest 0)) refl a
