-- The forms of tokens, comments and marker lines (C11 6.4), each a predicate on lists of bytes.
use Rattle.std.specs.Prelude.{ℕ, ◌≡◌, ◌⊎◌, List, [], ◌∷◌, ◌++◌, take, codes, Bool, true, false, not, ◌==◌, ◌||◌, ◌&&◌}
use Rattle.c_lexer.specs.Bytes.{is_blank, is_indent, is_line_end, is_letter, is_digit, is_word_byte, is_sign, is_exponent}
use Rattle.c_lexer.specs.Marks.{mark_text}
use Rattle.c_lexer.specs.declared.token.Mark.{Mark}
use Rattle.c_lexer.specs.declared.token.TokenKind.{TokenKind}
use Rattle.c_lexer.specs.declared.token.TokenKind.TheVariants.{Word, Number, Letter, Str, Mark as AMark, End}
use Rattle.c_tokens.specs.Constants.{IsConstant, IsCharacter}
use Rattle.c_tokens.specs.Spans.{Each, Begins, Longest, Shortest}

-- an identifier or a keyword (6.4.1, 6.4.2)
abbrev pub IsWord : List ℕ → Type 0
IsWord [] = ⊥
IsWord (b ∷ bytes) = (is_letter b ≡ true) × Each is_word_byte bytes

-- a preprocessing number (6.4.8): a digit, a point and a digit, or one of these with one more letter, digit or point, or
-- with an exponent's letter and sign
pub data PpNumber : List ℕ → Type 0 where
  a_digit : {x : List ℕ} (d : ℕ) → is_digit d ≡ true → x ≡ d ∷ [] → PpNumber x
  a_point : {x : List ℕ} (d : ℕ) → is_digit d ≡ true → x ≡ 46 ∷ d ∷ [] → PpNumber x
  one_more : {x : List ℕ} (front : List ℕ) (b : ℕ) → PpNumber front → (is_word_byte b || (b == 46)) ≡ true → x ≡ front ++ b ∷ [] → PpNumber x
  exponent : {x : List ℕ} (front : List ℕ) (e s : ℕ) → PpNumber front → is_exponent e ≡ true → is_sign s ≡ true → x ≡ front ++ e ∷ s ∷ [] → PpNumber x

-- any byte but this quote, `\` and the line's end
abbrev pub is_itself : ℕ → ℕ → Bool
is_itself quote b = not (b == quote) && not (b == 92) && not (is_line_end b)

-- what may stand between quotes: bytes that stand for themselves, and a `\` with any byte but the line's end
pub data Quotable (quote : ℕ) : List ℕ → Type 0 where
  nothing : {x : List ℕ} → x ≡ [] → Quotable quote x
  itself : {x : List ℕ} (b : ℕ) (bytes : List ℕ) → is_itself quote b ≡ true → Quotable quote bytes → x ≡ b ∷ bytes → Quotable quote x
  escaped : {x : List ℕ} (b : ℕ) (bytes : List ℕ) → is_line_end b ≡ false → Quotable quote bytes → x ≡ 92 ∷ b ∷ bytes → Quotable quote x

-- a string or a character constant of any form (6.4.4.4, 6.4.5)
pub record IsQuoted (quote : ℕ) (text : List ℕ) : Type 0 where
  pub body : List ℕ
  pub quotable : Quotable quote body
  pub written : text ≡ quote ∷ (body ++ quote ∷ [])

-- a preprocessing token (6.4)
pub data Lexeme (text : List ℕ) : Type 0 where
  a_word : IsWord text → Lexeme text
  a_number : PpNumber text → Lexeme text
  a_character : IsQuoted 39 text → Lexeme text
  a_string : IsQuoted 34 text → Lexeme text
  a_mark : (mark : Mark) → text ≡ mark_text mark → Lexeme text

-- the form of a token by its kind
abbrev pub IsForm : TokenKind → List ℕ → Type 0
IsForm (Word bytes) text = IsWord text × (bytes ≡ text)
IsForm (Number value form) text = PpNumber text × IsConstant value form text
IsForm (Letter value) text = IsCharacter value text
IsForm Str text = IsQuoted 34 text
IsForm (AMark mark) text = text ≡ mark_text mark
IsForm End text = ⊥

-- a comment in `/*` and `*/` (6.4.9)
abbrev pub IsComment : List ℕ → Type 0
IsComment text = (body : List ℕ) × (text ≡ codes "/*" ++ (body ++ codes "*/"))

abbrev pub OpensComment : List ℕ → Type 0
OpensComment bytes = Begins bytes (codes "/*") ⊎ Begins bytes (codes "//")

-- a token of so many bytes at the front of these: the longest preprocessing token there, of its kind's form, where no
-- comment opens
pub record IsToken (rest : List ℕ) (kind : TokenKind) (n : ℕ) : Type 0 where
  pub longest : Longest Lexeme rest n
  pub form : IsForm kind (take n rest)
  pub free : OpensComment rest → ⊥

-- bytes of one line behind these
abbrev pub IsLine : List ℕ → List ℕ → Type 0
IsLine front text = (body : List ℕ) × (text ≡ front ++ body) × Each (λ b. not (is_line_end b)) body

-- spaces and tabs alone stand in the last line of these bytes
abbrev pub StartsLine : List ℕ → Type 0
StartsLine before =
    (front indent : List ℕ) × (before ≡ front ++ indent) × Each is_indent indent × ((front ≡ []) ⊎ ((line : List ℕ) × (front ≡ line ++ 10 ∷ [])))

abbrev pub is_line_blank : ℕ → Bool
is_line_blank b = is_blank b && not (is_line_end b)

abbrev pub IsMarkerWord : List ℕ → Type 0
IsMarkerWord word = (word ≡ codes "line") ⊎ ((word ≡ codes "pragma") ⊎ (word ≡ codes "ident"))

-- what follows the `#` of a marker line and blanks: the end of the source or of the line, a digit, or one of three words
pub data IsMarkerTail (tail : List ℕ) : Type 0 where
  at_end : tail ≡ [] → IsMarkerTail tail
  at_line_end : Begins tail (10 ∷ []) → IsMarkerTail tail
  at_digit : (d : ℕ) → is_digit d ≡ true → Begins tail (d ∷ []) → IsMarkerTail tail
  at_word : (n : ℕ) → Longest IsWord tail n → IsMarkerWord (take n tail) → IsMarkerTail tail

-- a `#` goes on as a marker line does
abbrev pub IsMarker : List ℕ → Type 0
IsMarker rest = (gap tail : List ℕ) × (rest ≡ codes "#" ++ (gap ++ tail)) × Each is_line_blank gap × IsMarkerTail tail

-- so many bytes at the front of the rest of a source, which these stand before, are a blank, a comment or a marker line
pub data IsGap (before rest : List ℕ) (n : ℕ) : Type 0 where
  a_blank : (b : ℕ) → is_blank b ≡ true → Begins rest (b ∷ []) → n ≡ 1 → IsGap before rest n
  a_comment : Shortest IsComment rest n → IsGap before rest n
  a_line_comment : Longest (IsLine (codes "//")) rest n → IsGap before rest n
  a_marker_line : StartsLine before → IsMarker rest → Longest (IsLine (codes "#")) rest n → IsGap before rest n
