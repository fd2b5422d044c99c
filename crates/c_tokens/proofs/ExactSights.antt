-- What stands there is what the sight says.
use Rattle.std.proofs.Common.{◌≡◌, ℕ, zero, suc, ◌+◌, ◌≤◌, List, [], ◌∷◌, ◌++◌, length, take, refl, sym, ◌∙◌, ap, subst, arith, Bool, true, false, inl, inr, ◌⊎◌, ℤ}
use Rattle.std.specs.Prelude.{◌==◌, ◌&&◌, not, slice_index, codes, if◌then◌else◌, Option, Some, None}
use Rattle.std.proofs.lemmas.Bool.{both_ways, eqb-true, ne_eqb, and_parts, false_from_ne_true, cases_order}
use Rattle.lv_base.specs.declared.fault.SourceFault.{SourceFault}
use Rattle.lv_base.specs.declared.fault.SourceFault.TheVariants.{BadByte, Unclosed, Directive, BadNumber}
use Rattle.c_lexer.specs.Bytes.{is_letter}
use Rattle.c_lexer.specs.Constants.{constant_of, letter_of}
use Rattle.c_lexer.specs.Marks.{mark_text}
use Rattle.c_lexer.specs.Scan.{word_width, line_width, number_from, closed_at, comment_end}
use Rattle.c_lexer.specs.Steps.{begins_number}
use Rattle.c_lexer.specs.declared.token.Mark.{Mark}
use Rattle.c_lexer.specs.declared.token.Mark.TheVariants.{Slash}
use Rattle.c_lexer.specs.declared.token.NumberForm.{NumberForm}
use Rattle.c_lexer.specs.declared.token.TokenKind.{TokenKind}
use Rattle.c_lexer.specs.declared.token.TokenKind.TheVariants.{Word, Number, Letter, Str, Mark as AMark, End}
use Rattle.c_tokens.specs.Spans.{Begins, Never, Longest, Shortest}
use Rattle.c_tokens.specs.Forms.{PpNumber, IsQuoted, Lexeme, IsForm, IsComment, IsToken, IsLine, IsMarker, IsGap}
use Rattle.c_tokens.specs.Forms.Lexeme.{a_mark}
use Rattle.c_tokens.specs.Forms.IsGap.{a_blank, a_comment, a_line_comment, a_marker_line}
use Rattle.c_tokens.specs.Faults.{IsFault, IsBadByte, IsUnclosed, IsDirective, IsBadNumber}
use Rattle.c_tokens.specs.Faults.IsBadByte.{a_hash, a_byte}
use Rattle.c_tokens.specs.Faults.IsUnclosed.{a_comment as open_comment, a_quote}
use Rattle.c_tokens.proofs.Comments.{tail_of, comment_below, comment_shortest, line_longest}
use Rattle.c_tokens.proofs.ConstantLaws.{constant_is, constant_found, letter_found}
use Rattle.c_tokens.proofs.Flags.{next_flag, flag_after, flag_starts, starts_flag}
use Rattle.c_tokens.proofs.Letters.{character_quoted, letter_is}
use Rattle.c_tokens.proofs.Lexemes.{mark_symbol, mark_begins, empty_lexeme, Symbol, symbol_is, longest_word, word_wide, longest_number, quoted_found, quoted_taken, MarkSeen, mark_seen}
use Rattle.c_tokens.proofs.Lexemes.MarkSeen.{seen, unseen}
use Rattle.c_tokens.proofs.Markers.{marker_is, marker_found}
use Rattle.c_tokens.proofs.Marks.{unmark, unmarked}
use Rattle.c_tokens.proofs.Numbers.{goes_for, number_width, number_read, number_front, begins_taken}
use Rattle.c_tokens.proofs.Quotes.{letters_quote, strings_quote}
use Rattle.c_tokens.proofs.Sights.{sight_of, number_sight_of, string_sight_of, letter_sight_of, closed_letter_sight, marker_tail, comment_sight_of, mark_sight}
use Rattle.c_tokens.proofs.Sights.Sight.{Skip, Token, Fault}
use Rattle.c_tokens.proofs.SoundSights.{at_blank, at_letter, at_number, at_mark}
use Rattle.c_tokens.proofs.SpanLemmas.{one_longest, one_shortest}

-- the first bytes of what was taken
pub first_of : (rest : List ℕ) (n a : ℕ) (xs : List ℕ) → take n rest ≡ a ∷ xs → (after : List ℕ) × (rest ≡ a ∷ after)
first_of rest zero a xs e = absurd (cc e)
first_of [] (suc n) a xs e = absurd (cc e)
first_of (b ∷ rest) (suc n) a xs e = (rest, let same : b ≡ a = cc e in ap (λ (k : ℕ). k ∷ rest) same)

first_two : (rest : List ℕ) (n a b : ℕ) (xs : List ℕ) → take n rest ≡ a ∷ b ∷ xs → (after : List ℕ) × (rest ≡ a ∷ b ∷ after)
first_two rest zero a b xs e = absurd (cc e)
first_two [] (suc n) a b xs e = absurd (cc e)
first_two (c ∷ rest) (suc n) a b xs e =
    let later = first_of rest n b xs (tail_of e) in
    let same : c ≡ a = cc e in
    (later.0, ap (λ (l : List ℕ). c ∷ l) later.1 ∙ ap (λ (k : ℕ). k ∷ b ∷ later.0) same)

-- gaps
pub gap_sight : (flag : Bool) (before rest : List ℕ) (n : ℕ) → flag_after true before ≡ flag → IsGap before rest n → (next : Bool) × (sight_of flag rest ≡ Skip n next)
gap_sight flag before rest n is (a_blank b blank begins one) =
    (next_flag flag b, ap (sight_of flag) begins.1 ∙ at_blank flag b begins.0 blank ∙ ap (λ (k : ℕ). Skip k (next_flag flag b)) (sym one))
gap_sight flag before rest n is (a_comment s) =
    let f = first_two rest n 47 42 (s.formed.0 ++ codes "*/") s.formed.1 in
    at_comment f.0 f.1
  where
    at_comment : (xs : List ℕ) → rest ≡ 47 ∷ 42 ∷ xs → (next : Bool) × (sight_of flag rest ≡ Skip n next)
    at_comment xs there =
        let here : Shortest IsComment (47 ∷ 42 ∷ xs) n = subst (λ (l : List ℕ). Shortest IsComment l n) there s in
        let found = comment_below xs n here.there here.formed in
        let same : n ≡ suc (suc found.0) = one_shortest IsComment (47 ∷ 42 ∷ xs) n (suc (suc found.0)) here (comment_shortest xs found.0 found.1) in
        let count : found.0 + 2 ≡ n = omega (arith, same) in
        (false, ap (sight_of flag) there ∙ ap comment_sight_of found.1 ∙ ap (λ (k : ℕ). Skip k false) count)
gap_sight flag before rest n is (a_line_comment l) =
    let f = first_two rest n 47 47 l.formed.0 l.formed.1 in
    at_line f.0 f.1
  where
    at_line : (xs : List ℕ) → rest ≡ 47 ∷ 47 ∷ xs → (next : Bool) × (sight_of flag rest ≡ Skip n next)
    at_line xs there =
        let here : Longest (IsLine (codes "//")) (47 ∷ 47 ∷ xs) n = subst (λ (r : List ℕ). Longest (IsLine (codes "//")) r n) there l in
        let same : n ≡ line_width (47 ∷ 47 ∷ xs) = one_longest (IsLine (codes "//")) (47 ∷ 47 ∷ xs) n (line_width (47 ∷ 47 ∷ xs)) here (line_longest (codes "//") xs (refl, (refl, tt))) in
        (false, ap (sight_of flag) there ∙ ap (λ (k : ℕ). Skip k false) (sym same))
gap_sight flag before rest n is (a_marker_line starts marker l) = at_marker (marker.0 ++ marker.1) marker.2
  where
    at_marker : (xs : List ℕ) → rest ≡ 35 ∷ xs → (next : Bool) × (sight_of flag rest ≡ Skip n next)
    at_marker xs there =
        let here : Longest (IsLine (codes "#")) (35 ∷ xs) n = subst (λ (r : List ℕ). Longest (IsLine (codes "#")) r n) there l in
        let same : n ≡ line_width (35 ∷ xs) = one_longest (IsLine (codes "#")) (35 ∷ xs) n (line_width (35 ∷ xs)) here (line_longest (codes "#") xs (refl, tt)) in
        let up : flag ≡ true = sym is ∙ starts_flag before starts in
        let tail : marker_tail xs ≡ true = marker_found xs (subst IsMarker there marker) in (
          false,
          ap (sight_of flag) there ∙ ap (λ (t : Bool). if not t then Fault BadByte else if marker_tail xs then Skip (line_width (35 ∷ xs)) false else Fault Directive) up
              ∙ ap (λ (t : Bool). if t then Skip (line_width (35 ∷ xs)) false else Fault Directive) tail ∙ ap (λ (k : ℕ). Skip k false) (sym same),
        )

module _ (flag : Bool) where
  -- tokens
  word_token : (b : ℕ) (bytes text : List ℕ) (n : ℕ) → IsToken (b ∷ bytes) (Word text) n → sight_of flag (b ∷ bytes) ≡ Token (Word text) n
  word_token b bytes text zero t = absurd t.form.0
  word_token b bytes text (suc n) t =
      let letter : is_letter b ≡ true = t.form.0.0 in
      let same : word_width (b ∷ bytes) ≡ suc n = word_wide b bytes letter ∙ one_longest Lexeme (b ∷ bytes) (suc (word_width bytes)) (suc n) (longest_word b bytes letter) t.longest in
      at_letter flag b bytes letter ∙ ap (λ (k : ℕ). Token (Word (take k (b ∷ bytes))) k) same ∙ ap (λ (l : List ℕ). Token (Word l) (suc n)) (sym t.form.1)

  number_same : (b : ℕ) (bytes : List ℕ) (n : ℕ) → PpNumber (take n (b ∷ bytes)) → Longest Lexeme (b ∷ bytes) n → sight_of flag (b ∷ bytes) ≡ number_sight_of (constant_of (take n (b ∷ bytes))) n
  number_same b bytes zero number longest = absurd (number_read [] number)
  number_same b bytes (suc n) number longest =
      let begins : begins_number b (slice_index bytes 0) ≡ true = begins_taken b bytes n (number_read (b ∷ take n bytes) number).0 in
      let width : number_from 1 b bytes ≡ suc (goes_for b bytes) = number_width 1 b bytes ∙ omega arith in
      let same : number_from 1 b bytes ≡ suc n = width ∙ one_longest Lexeme (b ∷ bytes) (suc (goes_for b bytes)) (suc n) (longest_number b bytes begins) longest in
      at_number flag b bytes begins ∙ ap (λ (k : ℕ). number_sight_of (constant_of (take k (b ∷ bytes))) k) same

  string_token : (bytes : List ℕ) (n : ℕ) → IsToken (34 ∷ bytes) Str n → sight_of flag (34 ∷ bytes) ≡ Token Str n
  string_token bytes zero t = absurd (cc t.form.written)
  string_token bytes (suc n) t =
      let within : suc n ≤ length (34 ∷ bytes) = t.longest.there in
      let found : closed_at 34 false 0 bytes ≡ Some n = quoted_found 34 strings_quote bytes n (omega arith) t.form in
      let next : n + 1 ≡ suc n = omega arith in
      ap string_sight_of found ∙ ap (λ (k : ℕ). Token Str k) next

  letter_same : (bytes : List ℕ) (n : ℕ) → n ≤ length (39 ∷ bytes) → IsQuoted 39 (take n (39 ∷ bytes)) → sight_of flag (39 ∷ bytes) ≡ letter_sight_of (letter_of (take n (39 ∷ bytes))) n
  letter_same bytes zero within quoted = absurd (cc quoted.written)
  letter_same bytes (suc n) within quoted =
      let found : closed_at 39 false 0 bytes ≡ Some n = quoted_found 39 letters_quote bytes n (omega arith) quoted in
      let next : n + 1 ≡ suc n = omega arith in
      ap (λ (o : Option ℕ). closed_letter_sight o (39 ∷ bytes)) found ∙ ap (λ (k : ℕ). letter_sight_of (letter_of (take k (39 ∷ bytes))) k) next

  no_opening : (b : ℕ) (bytes : List ℕ) (c : ℕ) → (0 == c) ≡ false → (Begins (b ∷ bytes) (47 ∷ c ∷ []) → ⊥) → ((b == 47) && (slice_index bytes 0 == c)) ≡ false
  no_opening b bytes c some none = false_from_ne_true ((b == 47) && (slice_index bytes 0 == c)) (λ h. at bytes (and_parts (b == 47) (slice_index bytes 0 == c) h) none)
    where
      at : (xs : List ℕ) → ((b == 47) ≡ true) × ((slice_index xs 0 == c) ≡ true) → (Begins (b ∷ xs) (47 ∷ c ∷ []) → ⊥) → ⊥
      at [] p closed = both_ways (0 == c) some p.1
      at (x ∷ xs) p closed = closed (xs, ap (λ (k : ℕ). k ∷ x ∷ xs) (eqb-true b 47 p.0) ∙ ap (λ (k : ℕ). 47 ∷ k ∷ xs) (eqb-true x c p.1))

  mark_token : (b : ℕ) (bytes : List ℕ) (m : Mark) (n : ℕ) → IsToken (b ∷ bytes) (AMark m) n → sight_of flag (b ∷ bytes) ≡ Token (AMark m) n
  mark_token b bytes m zero t = absurd (cc (ap unmark t.form ∙ unmarked m))
  mark_token b bytes m (suc n) t =
      at_mark flag b bytes symbol.blank symbol.letter number symbol.double symbol.single symbol.hash (no_opening b bytes 42 refl (λ o. t.free (inl o))) (no_opening b bytes 47 refl (λ o. t.free (inr o)))
      ∙ by_seen (mark_seen (b ∷ bytes))
    where
      text : b ∷ take n bytes ≡ mark_text m
      text = t.form

      symbol : Symbol b
      symbol = symbol_is b (mark_symbol m b (take n bytes) text)

      number : begins_number b (slice_index bytes 0) ≡ false
      number = false_from_ne_true (begins_number b (slice_index bytes 0)) no_number
        where
          no_number : begins_number b (slice_index bytes 0) ≡ true → ⊥
          no_number h =
              let same : suc (goes_for b bytes) ≡ suc n = one_longest Lexeme (b ∷ bytes) (suc (goes_for b bytes)) (suc n) (longest_number b bytes h) t.longest in
              let pp : PpNumber (take (suc n) (b ∷ bytes)) = subst (λ (k : ℕ). PpNumber (take k (b ∷ bytes))) same (number_front b bytes h) in
              both_ways (begins_number b (slice_index (take n bytes) 0)) (mark_begins m b (take n bytes) text) (number_read (b ∷ take n bytes) pp).0

      by_seen : MarkSeen (b ∷ bytes) → mark_sight (b ∷ bytes) ≡ Token (AMark m) (suc n)
      by_seen (unseen is none) = absurd (none (suc n) m t.longest.there text)
      by_seen (seen other k is some within found last) = elim (cases_order k (suc n)) [
        | inl e ↦
            let texts : mark_text other ≡ mark_text m = sym found ∙ ap (λ (j : ℕ). take j (b ∷ bytes)) e ∙ text in
            let marks : other ≡ m = one_mark (sym (unmarked other) ∙ ap unmark texts ∙ unmarked m) in
            is ∙ ap (λ (x : Mark). Token (AMark x) k) marks ∙ ap (λ (j : ℕ). Token (AMark m) j) e
        | inr g ↦ elim g [
          | inl less ↦ absurd (last (suc n) m less t.longest.there text)
          | inr more ↦ absurd (t.longest.most k more within (a_mark other found))
        ]
      ]
        where
          one_mark : {x y : Mark} → Some x ≡ Some y → x ≡ y
          one_mark e = cc e

  first_there : (rest : List ℕ) (n b : ℕ) (xs : List ℕ) (kind : TokenKind) → take n rest ≡ b ∷ xs → IsToken rest kind n → ((bytes : List ℕ) → IsToken (b ∷ bytes) kind n → sight_of flag (b ∷ bytes) ≡ Token kind n) → sight_of flag rest ≡ Token kind n
  first_there rest n b xs kind e t go =
      let f = first_of rest n b xs e in
      ap (sight_of flag) f.1 ∙ go f.0 (subst (λ (l : List ℕ). IsToken l kind n) f.1 t)

  letter_token : (bytes : List ℕ) (n : ℕ) (value : ℤ) → IsToken (39 ∷ bytes) (Letter value) n → sight_of flag (39 ∷ bytes) ≡ Token (Letter value) n
  letter_token bytes n value t =
      letter_same bytes n t.longest.there (character_quoted value (take n (39 ∷ bytes)) t.form) ∙ ap (λ (o : Option ℤ). letter_sight_of o n) (letter_found (take n (39 ∷ bytes)) value t.form)

  pub token_sight : (rest : List ℕ) (kind : TokenKind) (n : ℕ) → IsToken rest kind n → sight_of flag rest ≡ Token kind n
  token_sight rest (Letter value) n t = let q = character_quoted value (take n rest) t.form in first_there rest n 39 (q.body ++ 39 ∷ []) (Letter value) q.written t (λ bytes u. letter_token bytes n value u)
  token_sight rest Str n t = first_there rest n 34 (t.form.body ++ 34 ∷ []) Str t.form.written t (λ bytes u. string_token bytes n u)
  token_sight rest End n t = absurd t.form
  token_sight [] (Word text) zero t = absurd t.form.0
  token_sight [] (Word text) (suc n) t = absurd t.form.0
  token_sight (b ∷ bytes) (Word text) n t = word_token b bytes text n t
  token_sight [] (Number value form) zero t = absurd (number_read [] t.form.0)
  token_sight [] (Number value form) (suc n) t = absurd (number_read [] t.form.0)
  token_sight (b ∷ bytes) (Number value form) n t = number_same b bytes n t.form.0 t.longest ∙ ap (λ (o : Option (ℕ × NumberForm)). number_sight_of o n) (constant_found (take n (b ∷ bytes)) value form t.form.1)
  token_sight [] (AMark m) zero t = absurd (cc (ap unmark t.form ∙ unmarked m))
  token_sight [] (AMark m) (suc n) t = absurd (cc (ap unmark t.form ∙ unmarked m))
  token_sight (b ∷ bytes) (AMark m) n t = mark_token b bytes m n t

  -- faults
  bad_number : (b : ℕ) (bytes : List ℕ) (n : ℕ) → Longest Lexeme (b ∷ bytes) n → PpNumber (take n (b ∷ bytes)) → ((kind : TokenKind) → IsForm kind (take n (b ∷ bytes)) → ⊥) → sight_of flag (b ∷ bytes) ≡ Fault BadNumber
  bad_number b bytes n longest number none = number_same b bytes n number longest ∙ by_constant (constant_of (take n (b ∷ bytes))) refl
    where
      by_constant : (o : Option (ℕ × NumberForm)) → constant_of (take n (b ∷ bytes)) ≡ o → number_sight_of o n ≡ Fault BadNumber
      by_constant None e = refl
      by_constant (Some found) e = absurd (none (Number found.0 found.1) (number, constant_is (take n (b ∷ bytes)) found.0 found.1 e))

  bad_letter : (bytes : List ℕ) (n : ℕ) → n ≤ length (39 ∷ bytes) → IsQuoted 39 (take n (39 ∷ bytes)) → ((kind : TokenKind) → IsForm kind (take n (39 ∷ bytes)) → ⊥) → sight_of flag (39 ∷ bytes) ≡ Fault BadNumber
  bad_letter bytes n within quoted none = letter_same bytes n within quoted ∙ by_value (letter_of (take n (39 ∷ bytes))) refl
    where
      by_value : (o : Option ℤ) → letter_of (take n (39 ∷ bytes)) ≡ o → letter_sight_of o n ≡ Fault BadNumber
      by_value None e = refl
      by_value (Some value) e = absurd (none (Letter value) (letter_is (take n (39 ∷ bytes)) value quoted e))

  bad_number_sight : (rest : List ℕ) → IsBadNumber rest → sight_of flag rest ≡ Fault BadNumber
  bad_number_sight rest bad = by_form rest bad.0 bad.1 bad.2 bad.3
    where
      by_form : (rest : List ℕ) (n : ℕ) → Longest Lexeme rest n → PpNumber (take n rest) ⊎ IsQuoted 39 (take n rest) → ((kind : TokenKind) → IsForm kind (take n rest) → ⊥) → sight_of flag rest ≡ Fault BadNumber
      by_form [] zero longest form none = absurd (empty_lexeme longest.formed)
      by_form [] (suc n) longest form none = absurd (empty_lexeme longest.formed)
      by_form (b ∷ bytes) n longest (inl number) none = bad_number b bytes n longest number none
      by_form (b ∷ bytes) n longest (inr quoted) none =
          let f = first_of (b ∷ bytes) n 39 (quoted.body ++ 39 ∷ []) quoted.written in
          ap (sight_of flag) f.1 ∙ bad_letter f.0 n (subst (λ (l : List ℕ). n ≤ length l) f.1 longest.there) (subst (λ (l : List ℕ). IsQuoted 39 (take n l)) f.1 quoted) (subst (λ (l : List ℕ). (kind : TokenKind) → IsForm kind (take n l) → ⊥) f.1 none)

  unclosed_sight : (rest : List ℕ) → IsUnclosed rest → sight_of flag rest ≡ Fault Unclosed
  unclosed_sight rest (open_comment begins never) = ap (sight_of flag) begins.1 ∙ by_end (comment_end false 0 begins.0) refl
    where
      by_end : (o : Option ℕ) → comment_end false 0 begins.0 ≡ o → comment_sight_of o ≡ Fault Unclosed
      by_end None e = refl
      by_end (Some n) e =
          let s : Shortest IsComment (47 ∷ 42 ∷ begins.0) (suc (suc n)) = comment_shortest begins.0 n e in
          let here : Shortest IsComment rest (suc (suc n)) = subst (λ (l : List ℕ). Shortest IsComment l (suc (suc n))) (sym begins.1) s in
          absurd (never (suc (suc n)) here.there here.formed)
  unclosed_sight rest (a_quote quote (inl e) begins never) = ap (sight_of flag) (begins.1 ∙ ap (λ (k : ℕ). k ∷ begins.0) e) ∙ by_end (closed_at 34 false 0 begins.0) refl
    where
      by_end : (o : Option ℕ) → closed_at 34 false 0 begins.0 ≡ o → string_sight_of o ≡ Fault Unclosed
      by_end None h = refl
      by_end (Some n) h =
          let t = quoted_taken 34 begins.0 n h in
          let there : rest ≡ 34 ∷ begins.0 = begins.1 ∙ ap (λ (k : ℕ). k ∷ begins.0) e in
          let long : length rest ≡ suc (length begins.0) = ap length there in
          absurd (never (suc n) (omega (arith, t.0)) (subst (λ (l : List ℕ). IsQuoted quote (take (suc n) l)) (sym there) (subst (λ (k : ℕ). IsQuoted k (34 ∷ take n begins.0)) (sym e) t.1)))
  unclosed_sight rest (a_quote quote (inr e) begins never) = ap (sight_of flag) (begins.1 ∙ ap (λ (k : ℕ). k ∷ begins.0) e) ∙ by_end (closed_at 39 false 0 begins.0) refl
    where
      by_end : (o : Option ℕ) → closed_at 39 false 0 begins.0 ≡ o → closed_letter_sight o (39 ∷ begins.0) ≡ Fault Unclosed
      by_end None h = refl
      by_end (Some n) h =
          let t = quoted_taken 39 begins.0 n h in
          let there : rest ≡ 39 ∷ begins.0 = begins.1 ∙ ap (λ (k : ℕ). k ∷ begins.0) e in
          let long : length rest ≡ suc (length begins.0) = ap length there in
          absurd (never (suc n) (omega (arith, t.0)) (subst (λ (l : List ℕ). IsQuoted quote (take (suc n) l)) (sym there) (subst (λ (k : ℕ). IsQuoted k (39 ∷ take n begins.0)) (sym e) t.1)))

  directive_sight : (before rest : List ℕ) → flag_after true before ≡ flag → IsDirective before rest → sight_of flag rest ≡ Fault Directive
  directive_sight before rest is d =
      let up : flag ≡ true = sym is ∙ starts_flag before d.1 in
      let tail : marker_tail d.0.0 ≡ false = false_from_ne_true (marker_tail d.0.0) (λ h. d.2 (subst IsMarker (sym d.0.1) (marker_is d.0.0 h))) in
      ap (sight_of flag) d.0.1
      ∙ ap (λ (t : Bool). if not t then Fault BadByte else if marker_tail d.0.0 then Skip (line_width (35 ∷ d.0.0)) false else Fault Directive) up
      ∙ ap (λ (t : Bool). if t then Skip (line_width (35 ∷ d.0.0)) false else Fault Directive) tail

  bad_byte_sight : (before rest : List ℕ) → flag_after true before ≡ flag → IsBadByte before rest → sight_of flag rest ≡ Fault BadByte
  bad_byte_sight before rest is (a_hash begins none) =
      let down : flag ≡ false = false_from_ne_true flag (λ h. none (flag_starts before (is ∙ h))) in
      ap (sight_of flag) begins.1
      ∙ ap (λ (t : Bool). if not t then Fault BadByte else if marker_tail begins.0 then Skip (line_width (35 ∷ begins.0)) false else Fault Directive) down
  bad_byte_sight before rest is (a_byte b begins blank double hash single never) = ap (sight_of flag) begins.1 ∙ at_byte begins.0 (subst (λ (l : List ℕ). Never Lexeme l) begins.1 never)
    where
      at_byte : (bytes : List ℕ) → Never Lexeme (b ∷ bytes) → sight_of flag (b ∷ bytes) ≡ Fault BadByte
      at_byte bytes none =
          let letter : is_letter b ≡ false = false_from_ne_true (is_letter b) (λ h. let l = longest_word b bytes h in none (suc (word_width bytes)) l.there l.formed) in
          let number : begins_number b (slice_index bytes 0) ≡ false = false_from_ne_true (begins_number b (slice_index bytes 0)) (λ h. let l = longest_number b bytes h in none (suc (goes_for b bytes)) l.there l.formed) in
          let no_slash : (b == 47) ≡ false = ne_eqb b 47 (λ e. none 1 (omega arith) (a_mark Slash (ap (λ (k : ℕ). k ∷ []) e))) in
          at_mark flag b bytes blank letter number (ne_eqb b 34 double) (ne_eqb b 39 single) (ne_eqb b 35 hash)
          (ap (λ (t : Bool). t && (slice_index bytes 0 == 42)) no_slash) (ap (λ (t : Bool). t && (slice_index bytes 0 == 47)) no_slash)
          ∙ by_seen (mark_seen (b ∷ bytes))
        where
          by_seen : MarkSeen (b ∷ bytes) → mark_sight (b ∷ bytes) ≡ Fault BadByte
          by_seen (unseen e no_mark) = e
          by_seen (seen m n e some within text last) = absurd (none n within (a_mark m text))

  pub fault_sight : (fault : SourceFault) (before rest : List ℕ) → flag_after true before ≡ flag → IsFault fault before rest → sight_of flag rest ≡ Fault fault
  fault_sight BadByte before rest is f = bad_byte_sight before rest is f
  fault_sight Unclosed before rest is f = unclosed_sight rest f
  fault_sight Directive before rest is f = directive_sight before rest is f
  fault_sight BadNumber before rest is f = bad_number_sight rest f
  fault_sight _ before rest is f = absurd f
