-- What a sight says stands there.
use Rattle.std.proofs.Common.{◌≡◌, ℕ, zero, suc, ◌+◌, ◌<◌, ◌≤◌, List, [], ◌∷◌, length, take, refl, sym, ◌∙◌, ap, subst, arith, Bool, true, false, inl, inr, ◌⊎◌, ℤ}
use Rattle.std.specs.Prelude.{◌==◌, ◌&&◌, not, slice_index, codes, if◌then◌else◌, Option, Some, None}
use Rattle.std.proofs.lemmas.Bool.{both_ways, or_cases, eqb-true, eqb-false, and_parts, false_from_ne_true}
use Rattle.lv_base.specs.declared.fault.SourceFault.TheVariants.{BadByte, Directive}
use Rattle.c_lexer.specs.Bytes.{is_blank, is_letter, is_digit, is_word_byte}
use Rattle.c_lexer.specs.Constants.{constant_of, letter_of}
use Rattle.c_lexer.specs.Marks.{mark_text}
use Rattle.c_lexer.specs.Scan.{line_width, number_from, closed_at, comment_end}
use Rattle.c_lexer.specs.Steps.{begins_number}
use Rattle.c_lexer.specs.declared.token.Mark.{Mark}
use Rattle.c_lexer.specs.declared.token.NumberForm.{NumberForm}
use Rattle.c_lexer.specs.declared.token.TokenKind.{TokenKind}
use Rattle.c_lexer.specs.declared.token.TokenKind.TheVariants.{Word, Number, Letter, Str, Mark as AMark, End}
use Rattle.c_tokens.specs.Spans.{Never, Longest}
use Rattle.c_tokens.specs.Forms.{PpNumber, IsQuoted, Lexeme, IsForm, OpensComment, IsToken, IsGap}
use Rattle.c_tokens.specs.Forms.Lexeme.{a_character, a_string, a_mark}
use Rattle.c_tokens.specs.Forms.IsGap.{a_blank, a_comment, a_line_comment, a_marker_line}
use Rattle.c_tokens.specs.Faults.{IsFault}
use Rattle.c_tokens.specs.Faults.IsBadByte.{a_hash, a_byte}
use Rattle.c_tokens.specs.Faults.IsUnclosed.{a_comment as open_comment, a_quote}
use Rattle.c_tokens.proofs.Classes.{letter_tests, digit_tests}
use Rattle.c_tokens.proofs.Comments.{comment_below, comment_shortest, line_longest, opens_first}
use Rattle.c_tokens.proofs.ConstantLaws.{constant_is, constant_found, letter_found}
use Rattle.c_tokens.proofs.Flags.{next_flag, flag_after, flag_starts, starts_flag, comment_flag, line_flag}
use Rattle.c_tokens.proofs.Letters.{character_quoted, letter_is}
use Rattle.c_tokens.proofs.Lexemes.{letter_no_number, mark_symbol, mark_begins, empty_lexeme, string_only, character_only, mark_only, longest_word, word_wide, longest_number, quoted_first, quoted_found, quoted_taken, longest_quoted, MarkSeen, mark_seen}
use Rattle.c_tokens.proofs.Lexemes.MarkSeen.{seen, unseen}
use Rattle.c_tokens.proofs.Markers.{marker_is, marker_found}
use Rattle.c_tokens.proofs.Numbers.{goes_for, number_width, number_read, number_front, begins_taken}
use Rattle.c_tokens.proofs.Quotes.{Quoting, letters_quote, strings_quote}
use Rattle.c_tokens.proofs.Sights.{Sight, sight_of, word_sight, number_sight, number_sight_of, symbol_sight, string_sight, string_sight_of, letter_sight, letter_sight_of, closed_letter_sight, marker_sight, marker_tail, comment_sight_of, mark_sight}
use Rattle.c_tokens.proofs.Sights.Sight.{Skip, Token, Fault}
use Rattle.c_tokens.proofs.SpanLemmas.{prefix_each}

abbrev pub Sees : Bool → List ℕ → List ℕ → Sight → Type 0
Sees flag before rest (Skip n next) = IsGap before rest n × (flag_after flag (take n rest) ≡ next)
Sees flag before rest (Token kind n) = IsToken rest kind n
Sees flag before rest (Fault fault) = IsFault fault before rest

pub number_forms : (b : ℕ) (bytes : List ℕ) (kind : TokenKind) → begins_number b (slice_index bytes 0) ≡ true → constant_of (b ∷ bytes) ≡ None → IsForm kind (b ∷ bytes) → ⊥
number_forms b bytes (Word text) begins none form = both_ways (begins_number b (slice_index bytes 0)) (letter_no_number b (slice_index bytes 0) form.0.0) begins
number_forms b bytes (Number value nf) begins none form = cc (sym none ∙ constant_found (b ∷ bytes) value nf form.1)
number_forms b bytes (Letter value) begins none form = both_ways (begins_number b (slice_index bytes 0)) (ap (λ (n : ℕ). begins_number n (slice_index bytes 0)) (quoted_first 39 b bytes (character_quoted value (b ∷ bytes) form))) begins
number_forms b bytes Str begins none form = both_ways (begins_number b (slice_index bytes 0)) (ap (λ (n : ℕ). begins_number n (slice_index bytes 0)) (quoted_first 34 b bytes form)) begins
number_forms b bytes (AMark m) begins none form = both_ways (begins_number b (slice_index bytes 0)) (mark_begins m b bytes form) begins
number_forms b bytes End begins none form = form

pub character_forms : (bytes : List ℕ) (kind : TokenKind) → letter_of (39 ∷ bytes) ≡ None → IsForm kind (39 ∷ bytes) → ⊥
character_forms bytes (Word text) none form = cc form.0.0
character_forms bytes (Number value nf) none form = cc (number_read (39 ∷ bytes) form.0).0
character_forms bytes (Letter value) none form = cc (sym none ∙ letter_found (39 ∷ bytes) value form)
character_forms bytes Str none form = cc (ap (λ (n : ℕ). n == 39) (quoted_first 34 39 bytes form))
character_forms bytes (AMark m) none form = cc (mark_symbol m 39 bytes form)
character_forms bytes End none form = form

-- the sight by the tests on the first bytes
pub at_blank : (flag : Bool) (b : ℕ) (bytes : List ℕ) → is_blank b ≡ true → sight_of flag (b ∷ bytes) ≡ Skip 1 (next_flag flag b)
at_blank flag b bytes a =
    ap (λ (t : Bool). if t then Skip 1 (next_flag flag b) else if is_letter b then word_sight (b ∷ bytes) else if begins_number b (slice_index bytes 0) then number_sight (b ∷ bytes) else symbol_sight flag (b ∷ bytes)) a

pub at_letter : (flag : Bool) (b : ℕ) (bytes : List ℕ) → is_letter b ≡ true → sight_of flag (b ∷ bytes) ≡ word_sight (b ∷ bytes)
at_letter flag b bytes l =
    ap (λ (t : Bool). if t then Skip 1 (next_flag flag b) else if is_letter b then word_sight (b ∷ bytes) else if begins_number b (slice_index bytes 0) then number_sight (b ∷ bytes) else symbol_sight flag (b ∷ bytes)) (letter_tests b l).0
    ∙ ap (λ (t : Bool). if t then word_sight (b ∷ bytes) else if begins_number b (slice_index bytes 0) then number_sight (b ∷ bytes) else symbol_sight flag (b ∷ bytes)) l

number_dull : (b s : ℕ) → begins_number b s ≡ true → (is_blank b ≡ false) × (is_letter b ≡ false)
number_dull b s n = elim (or_cases (is_digit b) ((b == 46) && is_digit s) n) [
  | inl digit ↦ let t = digit_tests b digit in (t.0, t.1)
  | inr point ↦ let e : b ≡ 46 = eqb-true b 46 (and_parts (b == 46) (is_digit s) point).0 in (ap is_blank e, ap is_letter e)
]

pub at_number : (flag : Bool) (b : ℕ) (bytes : List ℕ) → begins_number b (slice_index bytes 0) ≡ true → sight_of flag (b ∷ bytes) ≡ number_sight (b ∷ bytes)
at_number flag b bytes n =
    let dull = number_dull b (slice_index bytes 0) n in
    ap (λ (t : Bool). if t then Skip 1 (next_flag flag b) else if is_letter b then word_sight (b ∷ bytes) else if begins_number b (slice_index bytes 0) then number_sight (b ∷ bytes) else symbol_sight flag (b ∷ bytes)) dull.0
    ∙ ap (λ (t : Bool). if t then word_sight (b ∷ bytes) else if begins_number b (slice_index bytes 0) then number_sight (b ∷ bytes) else symbol_sight flag (b ∷ bytes)) dull.1
    ∙ ap (λ (t : Bool). if t then number_sight (b ∷ bytes) else symbol_sight flag (b ∷ bytes)) n

pub at_mark : (flag : Bool) (b : ℕ) (bytes : List ℕ) → is_blank b ≡ false → is_letter b ≡ false → begins_number b (slice_index bytes 0) ≡ false → (b == 34) ≡ false → (b == 39) ≡ false → (b == 35) ≡ false
    → ((b == 47) && (slice_index bytes 0 == 42)) ≡ false → ((b == 47) && (slice_index bytes 0 == 47)) ≡ false → sight_of flag (b ∷ bytes) ≡ mark_sight (b ∷ bytes)
at_mark flag b bytes a l n x y z c e = rw (a, l, n, x, y, z, c, e) refl

module _ (flag : Bool) (before : List ℕ) where
  sees_word : (b : ℕ) (bytes : List ℕ) → is_letter b ≡ true → Sees flag before (b ∷ bytes) (word_sight (b ∷ bytes))
  sees_word b bytes letter =
      subst (λ (k : ℕ). IsToken (b ∷ bytes) (Word (take k (b ∷ bytes))) k) (sym (word_wide b bytes letter))
      (record {
        longest = longest_word b bytes letter;
        form = ((letter, prefix_each is_word_byte bytes), refl);
        free = λ o. both_ways (b == 47) (letter_tests b letter).4 (ap (λ (n : ℕ). n == 47) (opens_first b bytes o).0);
      })

  sees_number : (b : ℕ) (bytes : List ℕ) → begins_number b (slice_index bytes 0) ≡ true → Sees flag before (b ∷ bytes) (number_sight (b ∷ bytes))
  sees_number b bytes begins =
      let width : number_from 1 b bytes ≡ suc (goes_for b bytes) = number_width 1 b bytes ∙ omega arith in
      subst (λ (k : ℕ). Sees flag before (b ∷ bytes) (number_sight_of (constant_of (take k (b ∷ bytes))) k)) (sym width) (by_constant (constant_of (b ∷ take (goes_for b bytes) bytes)) refl)
    where
      longest : Longest Lexeme (b ∷ bytes) (suc (goes_for b bytes))
      longest = longest_number b bytes begins

      pp : PpNumber (b ∷ take (goes_for b bytes) bytes)
      pp = number_front b bytes begins

      by_constant : (o : Option (ℕ × NumberForm)) → constant_of (b ∷ take (goes_for b bytes) bytes) ≡ o → Sees flag before (b ∷ bytes) (number_sight_of (constant_of (b ∷ take (goes_for b bytes) bytes)) (suc (goes_for b bytes)))
      by_constant (Some found) e = subst (λ (o : Option (ℕ × NumberForm)). Sees flag before (b ∷ bytes) (number_sight_of o (suc (goes_for b bytes)))) (sym e)
          (record {
            longest = longest;
            form = (pp, constant_is (b ∷ take (goes_for b bytes) bytes) found.0 found.1 e);
            free = λ o. both_ways (begins_number b (slice_index bytes 0)) (ap (λ (n : ℕ). begins_number n (slice_index bytes 0)) (opens_first b bytes o).0) begins;
          })
      by_constant None e = subst (λ (o : Option (ℕ × NumberForm)). Sees flag before (b ∷ bytes) (number_sight_of o (suc (goes_for b bytes)))) (sym e)
          (suc (goes_for b bytes), longest, inl pp, λ kind form. number_forms b (take (goes_for b bytes) bytes) kind (number_read (b ∷ take (goes_for b bytes) bytes) pp).0 e form)

  never_quoted : (quote : ℕ) → Quoting quote → (bytes : List ℕ) → closed_at quote false 0 bytes ≡ None → Never (IsQuoted quote) (quote ∷ bytes)
  never_quoted quote q bytes none zero within quoted = cc quoted.written
  never_quoted quote q bytes none (suc k) within quoted = cc (sym none ∙ quoted_found quote q bytes k (omega arith) quoted)

  sees_string : (bytes : List ℕ) → Sees flag before (34 ∷ bytes) (string_sight (34 ∷ bytes))
  sees_string bytes = by_end (closed_at 34 false 0 bytes) refl
    where
      by_end : (o : Option ℕ) → closed_at 34 false 0 bytes ≡ o → Sees flag before (34 ∷ bytes) (string_sight_of (closed_at 34 false 0 bytes))
      by_end None e = subst (λ (o : Option ℕ). Sees flag before (34 ∷ bytes) (string_sight_of o)) (sym e) (a_quote 34 (inl refl) (bytes, refl) (never_quoted 34 strings_quote bytes e))
      by_end (Some n) e =
          let next : suc n ≡ n + 1 = omega arith in
          subst (λ (o : Option ℕ). Sees flag before (34 ∷ bytes) (string_sight_of o)) (sym e)
          (subst (λ (k : ℕ). IsToken (34 ∷ bytes) Str k) next
          (record {
            longest = longest_quoted 34 strings_quote (λ text q. a_string q) string_only bytes n e;
            form = (quoted_taken 34 bytes n e).1;
            free = λ o. cc (ap (λ (k : ℕ). k == 34) (opens_first 34 bytes o).0);
          }))

  sees_letter : (bytes : List ℕ) → Sees flag before (39 ∷ bytes) (letter_sight (39 ∷ bytes))
  sees_letter bytes = by_end (closed_at 39 false 0 bytes) refl
    where
      by_value : (n : ℕ) → closed_at 39 false 0 bytes ≡ Some n → (o : Option ℤ) → letter_of (39 ∷ take n bytes) ≡ o → Sees flag before (39 ∷ bytes) (letter_sight_of o (suc n))
      by_value n e (Some value) v =
          record {
            longest = longest_quoted 39 letters_quote (λ text q. a_character q) character_only bytes n e;
            form = letter_is (39 ∷ take n bytes) value (quoted_taken 39 bytes n e).1 v;
            free = λ o. cc (ap (λ (k : ℕ). k == 39) (opens_first 39 bytes o).0);
          }
      by_value n e None v =
          (suc n, longest_quoted 39 letters_quote (λ text q. a_character q) character_only bytes n e, inr (quoted_taken 39 bytes n e).1, λ kind form. character_forms (take n bytes) kind v form)

      by_end : (o : Option ℕ) → closed_at 39 false 0 bytes ≡ o → Sees flag before (39 ∷ bytes) (closed_letter_sight (closed_at 39 false 0 bytes) (39 ∷ bytes))
      by_end None e = subst (λ (o : Option ℕ). Sees flag before (39 ∷ bytes) (closed_letter_sight o (39 ∷ bytes))) (sym e) (a_quote 39 (inr refl) (bytes, refl) (never_quoted 39 letters_quote bytes e))
      by_end (Some n) e =
          let next : suc n ≡ n + 1 = omega arith in
          subst (λ (o : Option ℕ). Sees flag before (39 ∷ bytes) (closed_letter_sight o (39 ∷ bytes))) (sym e)
          (subst (λ (k : ℕ). Sees flag before (39 ∷ bytes) (letter_sight_of (letter_of (take k (39 ∷ bytes))) k)) next (by_value n e (letter_of (39 ∷ take n bytes)) refl))

  sees_comment : (xs : List ℕ) → Sees flag before (47 ∷ 42 ∷ xs) (comment_sight_of (comment_end false 0 xs))
  sees_comment xs = by_end (comment_end false 0 xs) refl
    where
      by_end : (o : Option ℕ) → comment_end false 0 xs ≡ o → Sees flag before (47 ∷ 42 ∷ xs) (comment_sight_of o)
      by_end None e = open_comment (xs, refl) (λ k within c. let found = comment_below xs k within c in cc (sym e ∙ found.1))
      by_end (Some n) e =
          let next : suc (suc n) ≡ n + 2 = omega arith in
          let shortest = comment_shortest xs n e in
          subst (λ (k : ℕ). Sees flag before (47 ∷ 42 ∷ xs) (Skip k false)) next (a_comment shortest, comment_flag (take (suc (suc n)) (47 ∷ 42 ∷ xs)) flag shortest.formed)

  line_lowers : (t : Bool) → flag_after t (codes "//") ≡ false
  line_lowers true = refl
  line_lowers false = refl

  sees_line : (xs : List ℕ) → Sees flag before (47 ∷ 47 ∷ xs) (Skip (line_width (47 ∷ 47 ∷ xs)) false)
  sees_line xs =
      let longest = line_longest (codes "//") xs (refl, (refl, tt)) in
      (a_line_comment longest, line_flag (codes "//") (take (line_width (47 ∷ 47 ∷ xs)) (47 ∷ 47 ∷ xs)) flag (line_lowers flag) longest.formed)

  sees_marker : (bytes : List ℕ) → flag_after true before ≡ flag → Sees flag before (35 ∷ bytes) (marker_sight flag (35 ∷ bytes))
  sees_marker bytes is = by_flag flag refl
    where
      hash_lowers : (t : Bool) → flag_after t (codes "#") ≡ false
      hash_lowers true = refl
      hash_lowers false = refl

      by_tail : (t : Bool) → marker_tail bytes ≡ t → flag ≡ true → Sees flag before (35 ∷ bytes) (if t then Skip (line_width (35 ∷ bytes)) false else Fault Directive)
      by_tail true tail up =
          let longest = line_longest (codes "#") bytes (refl, tt) in
          (a_marker_line (flag_starts before (is ∙ up)) (marker_is bytes tail) longest, line_flag (codes "#") (take (line_width (35 ∷ bytes)) (35 ∷ bytes)) flag (hash_lowers flag) longest.formed)
      by_tail false tail up = ((bytes, refl), flag_starts before (is ∙ up), λ m. both_ways (marker_tail bytes) tail (marker_found bytes m))

      by_flag : (t : Bool) → flag ≡ t → Sees flag before (35 ∷ bytes) (if not t then Fault BadByte else if marker_tail bytes then Skip (line_width (35 ∷ bytes)) false else Fault Directive)
      by_flag true up = by_tail (marker_tail bytes) refl up
      by_flag false down = a_hash (bytes, refl) (λ s. both_ways (flag_after true before) (is ∙ down) (starts_flag before s))

  sees_mark : (b : ℕ) (bytes : List ℕ) → is_blank b ≡ false → is_letter b ≡ false → begins_number b (slice_index bytes 0) ≡ false → (b == 34) ≡ false → (b == 39) ≡ false → (b == 35) ≡ false
      → ((b == 47) && (slice_index bytes 0 == 42)) ≡ false → ((b == 47) && (slice_index bytes 0 == 47)) ≡ false → Sees flag before (b ∷ bytes) (mark_sight (b ∷ bytes))
  sees_mark b bytes blank letter number double single hash comment line = by_seen (mark_seen (b ∷ bytes))
    where
      opens : OpensComment (b ∷ bytes) → ⊥
      opens o = let f = opens_first b bytes o in at f.0 f.1
        where
          at : b ≡ 47 → (slice_index bytes 0 ≡ 42) ⊎ (slice_index bytes 0 ≡ 47) → ⊥
          at e (inl s) = both_ways ((b == 47) && (slice_index bytes 0 == 42)) comment (ap (λ (n : ℕ). (n == 47) && (slice_index bytes 0 == 42)) e ∙ ap (λ (n : ℕ). n == 42) s)
          at e (inr s) = both_ways ((b == 47) && (slice_index bytes 0 == 47)) line (ap (λ (n : ℕ). (n == 47) && (slice_index bytes 0 == 47)) e ∙ ap (λ (n : ℕ). n == 47) s)

      only : (k : ℕ) → Lexeme (b ∷ take k bytes) → (m : Mark) × (b ∷ take k bytes ≡ mark_text m)
      only k lexeme = mark_only b (take k bytes) letter (false_from_ne_true (begins_number b (slice_index (take k bytes) 0)) (λ h. both_ways (begins_number b (slice_index bytes 0)) number (begins_taken b bytes k h))) double single lexeme

      most : (n : ℕ) → ((k : ℕ) (other : Mark) → n < k → k ≤ length (b ∷ bytes) → take k (b ∷ bytes) ≡ mark_text other → ⊥) → (k : ℕ) → n < k → k ≤ length (b ∷ bytes) → Lexeme (take k (b ∷ bytes)) → ⊥
      most n last zero more within lexeme = empty_lexeme lexeme
      most n last (suc k) more within lexeme = let m = only k lexeme in last (suc k) m.0 more within m.1

      never : ((k : ℕ) (other : Mark) → k ≤ length (b ∷ bytes) → take k (b ∷ bytes) ≡ mark_text other → ⊥) → Never Lexeme (b ∷ bytes)
      never none zero within lexeme = empty_lexeme lexeme
      never none (suc k) within lexeme = let m = only k lexeme in none (suc k) m.0 within m.1

      by_seen : MarkSeen (b ∷ bytes) → Sees flag before (b ∷ bytes) (mark_sight (b ∷ bytes))
      by_seen (seen m n is some within text last) = subst (λ (s : Sight). Sees flag before (b ∷ bytes) s) (sym is) (record { longest = record { there = within; formed = a_mark m text; most = most n last }; form = text; free = opens })
      by_seen (unseen is none) = subst (λ (s : Sight). Sees flag before (b ∷ bytes) s) (sym is)
          (a_byte b (bytes, refl) blank (eqb-false b 34 double) (eqb-false b 35 hash) (eqb-false b 39 single) (never none))

  second_is : (c : ℕ) (bytes : List ℕ) → (0 == c) ≡ false → (slice_index bytes 0 == c) ≡ true → (xs : List ℕ) × (bytes ≡ c ∷ xs)
  second_is c [] none e = absurd (both_ways (0 == c) none e)
  second_is c (x ∷ xs) none e = (xs, ap (λ (n : ℕ). n ∷ xs) (eqb-true x c e))

  pub sees : (b : ℕ) (bytes : List ℕ) → flag_after true before ≡ flag → Sees flag before (b ∷ bytes) (sight_of flag (b ∷ bytes))
  sees b bytes is = by_blank (is_blank b) refl
    where
      by_line : (t : Bool) → ((b == 47) && (slice_index bytes 0 == 47)) ≡ t → is_blank b ≡ false → is_letter b ≡ false → begins_number b (slice_index bytes 0) ≡ false → (b == 34) ≡ false → (b == 39) ≡ false → (b == 35) ≡ false → ((b == 47) && (slice_index bytes 0 == 42)) ≡ false → Sees flag before (b ∷ bytes) (sight_of flag (b ∷ bytes))
      by_line false e a l n x y z c = subst (λ (s : Sight). Sees flag before (b ∷ bytes) s) (sym (at_mark flag b bytes a l n x y z c e)) (sees_mark b bytes a l n x y z c e)
      by_line true e a l n x y z c =
          let p = and_parts (b == 47) (slice_index bytes 0 == 47) e in
          let s = second_is 47 bytes refl p.1 in
          subst (λ (k : ℕ). Sees flag before (k ∷ bytes) (sight_of flag (k ∷ bytes))) (sym (eqb-true b 47 p.0)) (subst (λ (r : List ℕ). Sees flag before (47 ∷ r) (sight_of flag (47 ∷ r))) (sym s.1) (sees_line s.0))

      by_comment : (t : Bool) → ((b == 47) && (slice_index bytes 0 == 42)) ≡ t → is_blank b ≡ false → is_letter b ≡ false → begins_number b (slice_index bytes 0) ≡ false → (b == 34) ≡ false → (b == 39) ≡ false → (b == 35) ≡ false → Sees flag before (b ∷ bytes) (sight_of flag (b ∷ bytes))
      by_comment false c a l n x y z = by_line ((b == 47) && (slice_index bytes 0 == 47)) refl a l n x y z c
      by_comment true c a l n x y z =
          let p = and_parts (b == 47) (slice_index bytes 0 == 42) c in
          let s = second_is 42 bytes refl p.1 in
          subst (λ (k : ℕ). Sees flag before (k ∷ bytes) (sight_of flag (k ∷ bytes))) (sym (eqb-true b 47 p.0)) (subst (λ (r : List ℕ). Sees flag before (47 ∷ r) (sight_of flag (47 ∷ r))) (sym s.1) (sees_comment s.0))

      by_hash : (t : Bool) → (b == 35) ≡ t → is_blank b ≡ false → is_letter b ≡ false → begins_number b (slice_index bytes 0) ≡ false → (b == 34) ≡ false → (b == 39) ≡ false → Sees flag before (b ∷ bytes) (sight_of flag (b ∷ bytes))
      by_hash false z a l n x y = by_comment ((b == 47) && (slice_index bytes 0 == 42)) refl a l n x y z
      by_hash true z a l n x y = subst (λ (k : ℕ). Sees flag before (k ∷ bytes) (sight_of flag (k ∷ bytes))) (sym (eqb-true b 35 z)) (sees_marker bytes is)

      by_single : (t : Bool) → (b == 39) ≡ t → is_blank b ≡ false → is_letter b ≡ false → begins_number b (slice_index bytes 0) ≡ false → (b == 34) ≡ false → Sees flag before (b ∷ bytes) (sight_of flag (b ∷ bytes))
      by_single false y a l n x = by_hash (b == 35) refl a l n x y
      by_single true y a l n x = subst (λ (k : ℕ). Sees flag before (k ∷ bytes) (sight_of flag (k ∷ bytes))) (sym (eqb-true b 39 y)) (sees_letter bytes)

      by_double : (t : Bool) → (b == 34) ≡ t → is_blank b ≡ false → is_letter b ≡ false → begins_number b (slice_index bytes 0) ≡ false → Sees flag before (b ∷ bytes) (sight_of flag (b ∷ bytes))
      by_double false x a l n = by_single (b == 39) refl a l n x
      by_double true x a l n = subst (λ (k : ℕ). Sees flag before (k ∷ bytes) (sight_of flag (k ∷ bytes))) (sym (eqb-true b 34 x)) (sees_string bytes)

      by_number : (t : Bool) → begins_number b (slice_index bytes 0) ≡ t → is_blank b ≡ false → is_letter b ≡ false → Sees flag before (b ∷ bytes) (sight_of flag (b ∷ bytes))
      by_number false n a l = by_double (b == 34) refl a l n
      by_number true n a l = subst (λ (s : Sight). Sees flag before (b ∷ bytes) s) (sym (at_number flag b bytes n)) (sees_number b bytes n)

      by_letter : (t : Bool) → is_letter b ≡ t → is_blank b ≡ false → Sees flag before (b ∷ bytes) (sight_of flag (b ∷ bytes))
      by_letter false l a = by_number (begins_number b (slice_index bytes 0)) refl a l
      by_letter true l a = subst (λ (s : Sight). Sees flag before (b ∷ bytes) s) (sym (at_letter flag b bytes l)) (sees_word b bytes l)

      by_blank : (t : Bool) → is_blank b ≡ t → Sees flag before (b ∷ bytes) (sight_of flag (b ∷ bytes))
      by_blank false a = by_letter (is_letter b) refl a
      by_blank true a = subst (λ (s : Sight). Sees flag before (b ∷ bytes) s) (sym (at_blank flag b bytes a)) (a_blank b a (bytes, refl) refl, refl)
