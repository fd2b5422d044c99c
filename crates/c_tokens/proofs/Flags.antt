-- Whether blanks alone stand before a place in its line, step by step.
use Rattle.std.proofs.Common.{◌≡◌, ℕ, List, [], ◌∷◌, ◌++◌, refl, sym, ◌∙◌, ap, subst, arith, Bool, true, false, inl, inr, ◌⊎◌, append_assoc, append-nil}
use Rattle.std.specs.Prelude.{◌==◌, ◌||◌, ◌&&◌, not, slice_index, codes}
use Rattle.std.proofs.lemmas.Bool.{or_cases, or_from, or_right, and_parts, and_right, not-true, eqb-true}
use Rattle.std.proofs.lemmas.Bool.Decides.{nat_tests}
use Rattle.c_lexer.specs.Bytes.{is_blank, is_line_end, is_indent, is_letter, is_digit, is_word_byte, is_exponent, goes_on}
use Rattle.c_tokens.specs.Spans.{Each}
use Rattle.c_tokens.specs.Forms.{IsQuoted, Lexeme, IsComment, IsLine, StartsLine}
use Rattle.c_tokens.specs.Forms.Lexeme.{a_word, a_number, a_character, a_string, a_mark}
use Rattle.c_tokens.proofs.Lexemes.{mark_symbol, symbol_is, empty_lexeme}
use Rattle.c_tokens.proofs.Marks.{is_one_line, mark_one_line}
use Rattle.c_tokens.proofs.Numbers.{GoesOn, number_read}

abbrev pub next_flag : Bool → ℕ → Bool
next_flag flag b = is_line_end b || (flag && is_indent b)

-- the flag after some bytes
abbrev pub flag_after : Bool → List ℕ → Bool
flag_after flag [] = flag
flag_after flag (b ∷ bytes) = flag_after (next_flag flag b) bytes

pub flag_append : (flag : Bool) (xs ys : List ℕ) → flag_after flag (xs ++ ys) ≡ flag_after (flag_after flag xs) ys
flag_append flag [] ys = refl
flag_append flag (x ∷ xs) ys = flag_append (next_flag flag x) xs ys

line_starts : (xs before : List ℕ) (flag : Bool) → (flag ≡ true → StartsLine before) → flag_after flag xs ≡ true → StartsLine (before ++ xs)
line_starts [] before flag starts e = subst StartsLine (sym (append-nil before)) (starts e)
line_starts (b ∷ xs) before flag starts e = subst StartsLine (append_assoc before (b ∷ []) xs) (line_starts xs (before ++ b ∷ []) (next_flag flag b) next e)
  where
    next : next_flag flag b ≡ true → StartsLine (before ++ b ∷ [])
    next h = elim (or_cases (is_line_end b) (flag && is_indent b) h) [
      | inl end ↦ (before ++ b ∷ [], [], sym (append-nil (before ++ b ∷ [])), tt, inr (before, ap (λ (n : ℕ). before ++ n ∷ []) (eqb-true b 10 end)))
      | inr blank ↦ more (starts (and_parts flag (is_indent b) blank).0) (and_parts flag (is_indent b) blank).1
    ]
      where
        each_more : (ys : List ℕ) → Each is_indent ys → is_indent b ≡ true → Each is_indent (ys ++ b ∷ [])
        each_more [] each own = (own, tt)
        each_more (y ∷ ys) each own = (each.0, each_more ys each.1 own)

        more : StartsLine before → is_indent b ≡ true → StartsLine (before ++ b ∷ [])
        more s own = (s.0, s.1 ++ b ∷ [], ap (λ (l : List ℕ). l ++ b ∷ []) s.2 ∙ append_assoc s.0 s.1 (b ∷ []), each_more s.1 s.3 own, s.4)

pub flag_starts : (before : List ℕ) → flag_after true before ≡ true → StartsLine before
flag_starts before e = line_starts before [] true (λ _. ([], [], refl, tt, inl refl)) e

indents_keep : (xs : List ℕ) → Each is_indent xs → flag_after true xs ≡ true
indents_keep [] each = refl
indents_keep (x ∷ xs) each = ap (λ (t : Bool). flag_after t xs) (or_right (is_line_end x) (is_indent x) each.0) ∙ indents_keep xs each.1

pub starts_flag : (before : List ℕ) → StartsLine before → flag_after true before ≡ true
starts_flag before s =
    ap (flag_after true) s.2 ∙ flag_append true s.0 s.1 ∙ ap (λ (t : Bool). flag_after t s.1) (front s.0 s.4) ∙ indents_keep s.1 s.3
  where
    front : (xs : List ℕ) → (xs ≡ []) ⊎ ((line : List ℕ) × (xs ≡ line ++ 10 ∷ [])) → flag_after true xs ≡ true
    front xs (inl e) = ap (flag_after true) e
    front xs (inr e) = ap (flag_after true) e.1 ∙ flag_append true e.0 (10 ∷ [])

-- bytes without a line end keep a lowered flag
pub stays : (xs : List ℕ) → Each (λ b. not (is_line_end b)) xs → flag_after false xs ≡ false
stays [] each = refl
stays (x ∷ xs) each = ap (λ (t : Bool). flag_after t xs) (or_from (is_line_end x) false (not-true (is_line_end x) each.0) refl) ∙ stays xs each.1

lowers : (b : ℕ) (flag : Bool) → is_blank b ≡ false → next_flag flag b ≡ false
lowers b flag dull = or_from (is_line_end b) (flag && is_indent b) no_end (and_right flag (is_indent b) no_indent)
  where
    no_end : is_line_end b ≡ false
    no_end = grind (arith, nat_tests)

    no_indent : is_indent b ≡ false
    no_indent = grind (arith, nat_tests)

begun_line : (b : ℕ) (bytes : List ℕ) (flag : Bool) → is_blank b ≡ false → Each (λ c. not (is_line_end c)) bytes → flag_after flag (b ∷ bytes) ≡ false
begun_line b bytes flag dull each = ap (λ (t : Bool). flag_after t bytes) (lowers b flag dull) ∙ stays bytes each

word_line : (xs : List ℕ) → Each is_word_byte xs → Each (λ b. not (is_line_end b)) xs
word_line [] each = tt
word_line (x ∷ xs) each = (ap not (no_end each.0), word_line xs each.1)
  where
    no_end : is_word_byte x ≡ true → is_line_end x ≡ false
    no_end e = grind (arith, nat_tests)

number_line : (before : ℕ) (xs : List ℕ) → GoesOn before xs → Each (λ b. not (is_line_end b)) xs
number_line before [] goes = tt
number_line before (x ∷ xs) goes = (ap not (by_test (is_line_end x) refl), number_line x xs goes.1)
  where
    never : (t : Bool) → (false || (t && false)) ≡ true → ⊥
    never true e = cc e
    never false e = cc e

    by_test : (t : Bool) → is_line_end x ≡ t → t ≡ false
    by_test false e = refl
    by_test true e = absurd (never (is_exponent before) (sym (ap (λ (n : ℕ). goes_on before n) (eqb-true x 10 e)) ∙ goes.0))

one_line : (xs : List ℕ) → is_one_line xs ≡ true → Each (λ b. not (is_line_end b)) xs
one_line [] e = tt
one_line (x ∷ xs) e = let p = and_parts (not (is_line_end x)) (is_one_line xs) e in (p.0, one_line xs p.1)

quoted_flag : (quote : ℕ) (text : List ℕ) (flag : Bool) → is_line_end quote ≡ false → is_indent quote ≡ false → IsQuoted quote text → flag_after flag text ≡ false
quoted_flag quote text flag end indent q =
    ap (flag_after flag) q.written ∙ flag_append (next_flag flag quote) q.body (quote ∷ [])
    ∙ or_from (is_line_end quote) _ end (and_right (flag_after (next_flag flag quote) q.body) (is_indent quote) indent)

-- a token lowers the flag
pub lexeme_flag : (text : List ℕ) (flag : Bool) → Lexeme text → flag_after flag text ≡ false
lexeme_flag [] flag lexeme = absurd (empty_lexeme lexeme)
lexeme_flag (b ∷ bytes) flag (a_word w) = begun_line b bytes flag (dull w.0) (word_line bytes w.1)
  where
    dull : is_letter b ≡ true → is_blank b ≡ false
    dull e = grind (arith, nat_tests)
lexeme_flag (b ∷ bytes) flag (a_number n) = let r = number_read (b ∷ bytes) n in begun_line b bytes flag (dull (or_cases (is_digit b) ((b == 46) && is_digit (slice_index bytes 0)) r.0)) (number_line b bytes r.1)
  where
    digit_dull : is_digit b ≡ true → is_blank b ≡ false
    digit_dull e = grind (arith, nat_tests)

    dull : (is_digit b ≡ true) ⊎ (((b == 46) && is_digit (slice_index bytes 0)) ≡ true) → is_blank b ≡ false
    dull (inl digit) = digit_dull digit
    dull (inr point) = ap is_blank (eqb-true b 46 (and_parts (b == 46) (is_digit (slice_index bytes 0)) point).0)
lexeme_flag (b ∷ bytes) flag (a_character q) = quoted_flag 39 (b ∷ bytes) flag refl refl q
lexeme_flag (b ∷ bytes) flag (a_string q) = quoted_flag 34 (b ∷ bytes) flag refl refl q
lexeme_flag (b ∷ bytes) flag (a_mark m e) =
    let line = one_line (b ∷ bytes) (ap is_one_line e ∙ mark_one_line m) in
    begun_line b bytes flag (symbol_is b (mark_symbol m b bytes e)).blank line.1

pub comment_flag : (text : List ℕ) (flag : Bool) → IsComment text → flag_after flag text ≡ false
comment_flag text flag c =
    ap (flag_after flag) c.1 ∙ flag_append (flag_after flag (codes "/*")) c.0 (codes "*/") ∙ last (flag_after (flag_after flag (codes "/*")) c.0)
  where
    last : (t : Bool) → flag_after t (codes "*/") ≡ false
    last true = refl
    last false = refl

pub line_flag : (front text : List ℕ) (flag : Bool) → flag_after flag front ≡ false → IsLine front text → flag_after flag text ≡ false
line_flag front text flag low line = ap (flag_after flag) line.1 ∙ flag_append flag front line.0 ∙ ap (λ (t : Bool). flag_after t line.0) low ∙ stays line.0 line.2
