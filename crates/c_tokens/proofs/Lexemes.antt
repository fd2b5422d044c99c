-- Preprocessing tokens by their first bytes, and the longest of them.
use Rattle.std.proofs.Common.{◌≡◌, ℕ, zero, suc, ◌+◌, ◌<◌, ◌≤◌, List, [], ◌∷◌, ◌++◌, length, take, drop, refl, sym, ◌∙◌, ap, arith, Bool, true, false, cond, inl, inr, ◌⊎◌, append_assoc, length-take-le}
use Rattle.std.specs.Prelude.{◌==◌, ◌&&◌, not, slice_index, Option, Some, None}
use Rattle.std.proofs.lemmas.Bool.{or_parts, or_left, or_from, and_parts, and_left, not-true, both_ways}
use Rattle.std.proofs.lemmas.List.{take-append-drop, take_at, length-append}
use Rattle.std.proofs.lemmas.List.Sums.{prefix_len-le-length}
use Rattle.c_lexer.specs.Bytes.{is_blank, is_letter, is_digit, is_word_byte}
use Rattle.c_lexer.specs.Marks.{mark_text, mark_of_one, mark_of_two, mark_of_three}
use Rattle.c_lexer.specs.Scan.{word_width, closed_at}
use Rattle.c_lexer.specs.Steps.{begins_number}
use Rattle.c_lexer.specs.declared.token.Mark.{Mark}
use Rattle.c_lexer.specs.declared.token.TokenKind.TheVariants.{Mark as AMark}
use Rattle.lv_base.specs.declared.fault.SourceFault.TheVariants.{BadByte}
use Rattle.c_tokens.specs.Spans.{Longest}
use Rattle.c_tokens.specs.Forms.{IsWord, PpNumber, IsQuoted, Lexeme}
use Rattle.c_tokens.specs.Forms.Lexeme.{a_word, a_number, a_character, a_string, a_mark}
use Rattle.c_tokens.proofs.Classes.{letter_tests}
use Rattle.c_tokens.proofs.Marks.{unmark, unmarked, is_symbol, mark_first, mark_no_number, no_zero, mark_no_zero, one_is, two_is, three_is}
use Rattle.c_tokens.proofs.Numbers.{goes_for, goes_fits, goes_most, number_read, number_front}
use Rattle.c_tokens.proofs.Quotes.{Quoting, closed, closes}
use Rattle.c_tokens.proofs.Sights.{mark_sight, mark_sight_of}
use Rattle.c_tokens.proofs.Sights.Sight.{Token, Fault}
use Rattle.c_tokens.proofs.SpanLemmas.{prefix_each, each_prefix}

pub quoted_first : (quote b : ℕ) (bytes : List ℕ) → IsQuoted quote (b ∷ bytes) → b ≡ quote
quoted_first quote b bytes q = let e : b ∷ bytes ≡ quote ∷ (q.body ++ quote ∷ []) = q.written in cc e

pub mark_symbol : (m : Mark) (b : ℕ) (bytes : List ℕ) → b ∷ bytes ≡ mark_text m → is_symbol b ≡ true
mark_symbol m b bytes e = ap (λ (l : List ℕ). is_symbol (slice_index l 0)) e ∙ mark_first m

pub mark_begins : (m : Mark) (b : ℕ) (bytes : List ℕ) → b ∷ bytes ≡ mark_text m → begins_number b (slice_index bytes 0) ≡ false
mark_begins m b bytes e = ap (λ (l : List ℕ). begins_number (slice_index l 0) (slice_index l 1)) e ∙ mark_no_number m

-- what a byte that begins a mark is not
pub record Symbol (b : ℕ) : Type 0 where
  pub blank : is_blank b ≡ false
  pub letter : is_letter b ≡ false
  pub double : (b == 34) ≡ false
  pub single : (b == 39) ≡ false
  pub hash : (b == 35) ≡ false

pub symbol_is : (b : ℕ) → is_symbol b ≡ true → Symbol b
symbol_is b e =
    let p = and_parts (not (is_word_byte b) && not (is_blank b) && not (b == 34) && not (b == 39)) (not (b == 35)) e in
    let q = and_parts (not (is_word_byte b) && not (is_blank b) && not (b == 34)) (not (b == 39)) p.0 in
    let r = and_parts (not (is_word_byte b) && not (is_blank b)) (not (b == 34)) q.0 in
    let s = and_parts (not (is_word_byte b)) (not (is_blank b)) r.0 in
    record {
      blank = not-true (is_blank b) s.1;
      letter = (or_parts (is_letter b) (is_digit b) (not-true (is_word_byte b) s.0)).0;
      double = not-true (b == 34) r.1;
      single = not-true (b == 39) q.1;
      hash = not-true (b == 35) p.1;
    }

pub letter_no_number : (b s : ℕ) → is_letter b ≡ true → begins_number b s ≡ false
letter_no_number b s letter = let t = letter_tests b letter in or_from (is_digit b) ((b == 46) && is_digit s) t.1 (and_left (b == 46) (is_digit s) t.2)

pub empty_lexeme : Lexeme [] → ⊥
empty_lexeme (a_word w) = w
empty_lexeme (a_number n) = number_read [] n
empty_lexeme (a_character q) = absurd (cc q.written)
empty_lexeme (a_string q) = absurd (cc q.written)
empty_lexeme (a_mark m e) = absurd (cc (ap unmark e ∙ unmarked m))

pub word_only : (b : ℕ) (bytes : List ℕ) → is_letter b ≡ true → Lexeme (b ∷ bytes) → IsWord (b ∷ bytes)
word_only b bytes letter (a_word w) = w
word_only b bytes letter (a_number n) = absurd (both_ways (begins_number b (slice_index bytes 0)) (letter_no_number b (slice_index bytes 0) letter) (number_read (b ∷ bytes) n).0)
word_only b bytes letter (a_character q) = absurd (both_ways (is_letter b) (ap is_letter (quoted_first 39 b bytes q)) letter)
word_only b bytes letter (a_string q) = absurd (both_ways (is_letter b) (ap is_letter (quoted_first 34 b bytes q)) letter)
word_only b bytes letter (a_mark m e) = absurd (both_ways (is_letter b) (symbol_is b (mark_symbol m b bytes e)).letter letter)

pub number_only : (b : ℕ) (bytes : List ℕ) → begins_number b (slice_index bytes 0) ≡ true → Lexeme (b ∷ bytes) → PpNumber (b ∷ bytes)
number_only b bytes begins (a_word w) = absurd (both_ways (begins_number b (slice_index bytes 0)) (letter_no_number b (slice_index bytes 0) w.0) begins)
number_only b bytes begins (a_number n) = n
number_only b bytes begins (a_character q) = absurd (both_ways (begins_number b (slice_index bytes 0)) (ap (λ (n : ℕ). begins_number n (slice_index bytes 0)) (quoted_first 39 b bytes q)) begins)
number_only b bytes begins (a_string q) = absurd (both_ways (begins_number b (slice_index bytes 0)) (ap (λ (n : ℕ). begins_number n (slice_index bytes 0)) (quoted_first 34 b bytes q)) begins)
number_only b bytes begins (a_mark m e) = absurd (both_ways (begins_number b (slice_index bytes 0)) (mark_begins m b bytes e) begins)

pub string_only : (bytes : List ℕ) → Lexeme (34 ∷ bytes) → IsQuoted 34 (34 ∷ bytes)
string_only bytes (a_word w) = absurd (cc w.0)
string_only bytes (a_number n) = absurd (cc (number_read (34 ∷ bytes) n).0)
string_only bytes (a_character q) = absurd (cc (ap (λ (n : ℕ). n == 34) (quoted_first 39 34 bytes q)))
string_only bytes (a_string q) = q
string_only bytes (a_mark m e) = absurd (cc (mark_symbol m 34 bytes e))

pub character_only : (bytes : List ℕ) → Lexeme (39 ∷ bytes) → IsQuoted 39 (39 ∷ bytes)
character_only bytes (a_word w) = absurd (cc w.0)
character_only bytes (a_number n) = absurd (cc (number_read (39 ∷ bytes) n).0)
character_only bytes (a_character q) = q
character_only bytes (a_string q) = absurd (cc (ap (λ (n : ℕ). n == 39) (quoted_first 34 39 bytes q)))
character_only bytes (a_mark m e) = absurd (cc (mark_symbol m 39 bytes e))

pub mark_only : (b : ℕ) (bytes : List ℕ) → is_letter b ≡ false → begins_number b (slice_index bytes 0) ≡ false → (b == 34) ≡ false → (b == 39) ≡ false → Lexeme (b ∷ bytes) → (m : Mark) × (b ∷ bytes ≡ mark_text m)
mark_only b bytes letter number double single (a_word w) = absurd (both_ways (is_letter b) letter w.0)
mark_only b bytes letter number double single (a_number n) = absurd (both_ways (begins_number b (slice_index bytes 0)) number (number_read (b ∷ bytes) n).0)
mark_only b bytes letter number double single (a_character q) = absurd (both_ways (b == 39) single (ap (λ (n : ℕ). n == 39) (quoted_first 39 b bytes q)))
mark_only b bytes letter number double single (a_string q) = absurd (both_ways (b == 34) double (ap (λ (n : ℕ). n == 34) (quoted_first 34 b bytes q)))
mark_only b bytes letter number double single (a_mark m e) = (m, e)

-- the longest word
pub longest_word : (b : ℕ) (bytes : List ℕ) → is_letter b ≡ true → Longest Lexeme (b ∷ bytes) (suc (word_width bytes))
longest_word b bytes letter = record {
  there = omega (arith, prefix_len-le-length is_word_byte bytes);
  formed = a_word (letter, prefix_each is_word_byte bytes);
  most = most;
}
  where
    most : (k : ℕ) → suc (word_width bytes) < k → k ≤ length (b ∷ bytes) → Lexeme (take k (b ∷ bytes)) → ⊥
    most zero more within lexeme = absurd (omega arith)
    most (suc k) more within lexeme =
        let word = word_only b (take k bytes) letter lexeme in
        let below : k ≤ word_width bytes = each_prefix is_word_byte bytes k (omega arith) word.1 in
        absurd (omega arith)

pub word_wide : (b : ℕ) (bytes : List ℕ) → is_letter b ≡ true → word_width (b ∷ bytes) ≡ suc (word_width bytes)
word_wide b bytes letter =
    let next : 1 + word_width bytes ≡ suc (word_width bytes) = omega arith in
    ap (λ (t : Bool). cond t (1 + word_width bytes) 0) (or_left (is_letter b) (is_digit b) letter) ∙ next

-- the longest number
pub longest_number : (b : ℕ) (bytes : List ℕ) → begins_number b (slice_index bytes 0) ≡ true → Longest Lexeme (b ∷ bytes) (suc (goes_for b bytes))
longest_number b bytes begins = record {
  there = omega (arith, goes_fits b bytes);
  formed = a_number (number_front b bytes begins);
  most = most;
}
  where
    first_of_more : (k : ℕ) (xs : List ℕ) → 0 < k → slice_index (take k xs) 0 ≡ slice_index xs 0
    first_of_more zero xs some = absurd (omega arith)
    first_of_more (suc k) [] some = refl
    first_of_more (suc k) (x ∷ xs) some = refl

    most : (k : ℕ) → suc (goes_for b bytes) < k → k ≤ length (b ∷ bytes) → Lexeme (take k (b ∷ bytes)) → ⊥
    most zero more within lexeme = absurd (omega arith)
    most (suc k) more within lexeme =
        let still : begins_number b (slice_index (take k bytes) 0) ≡ true = ap (λ (s : ℕ). begins_number b s) (first_of_more k bytes (omega arith)) ∙ begins in
        let number = number_read (b ∷ take k bytes) (number_only b (take k bytes) still lexeme) in
        let below : k ≤ goes_for b bytes = goes_most b bytes k (omega arith) number.1 in
        absurd (omega arith)

-- quotes
pub quoted_found : (quote : ℕ) → Quoting quote → (bytes : List ℕ) (k : ℕ) → k ≤ length bytes → IsQuoted quote (quote ∷ take k bytes) → closed_at quote false 0 bytes ≡ Some k
quoted_found quote q bytes k within quoted =
    let taken : take k bytes ≡ quoted.body ++ quote ∷ [] = tail_of quoted.written in
    let whole : bytes ≡ quoted.body ++ quote ∷ drop k bytes =
    sym (take-append-drop k bytes) ∙ ap (λ (l : List ℕ). l ++ drop k bytes) taken ∙ append_assoc quoted.body (quote ∷ []) (drop k bytes) in
    let count : 0 + length quoted.body + 1 ≡ k = omega (arith, length-take-le k bytes within, ap length taken, length-append quoted.body (quote ∷ [])) in
    ap (λ (l : List ℕ). closed_at quote false 0 l) whole ∙ closed quote q quoted.body (drop k bytes) 0 quoted.quotable ∙ ap (λ (n : ℕ). Some n) count
  where
    tail_of : {x y : ℕ} {xs ys : List ℕ} → x ∷ xs ≡ y ∷ ys → xs ≡ ys
    tail_of e = cc e

pub quoted_taken : (quote : ℕ) (bytes : List ℕ) (n : ℕ) → closed_at quote false 0 bytes ≡ Some n → (n ≤ length bytes) × IsQuoted quote (quote ∷ take n bytes)
quoted_taken quote bytes n is =
    let c = closes quote bytes n is in
    let split : bytes ≡ (c.body ++ quote ∷ []) ++ c.more = c.written ∙ sym (append_assoc c.body (quote ∷ []) c.more) in
    let count : length (c.body ++ quote ∷ []) ≡ n = omega (arith, length-append c.body (quote ∷ []), c.counted) in
    let taken : take n bytes ≡ c.body ++ quote ∷ [] = ap (λ (l : List ℕ). take n l) split ∙ take_at (c.body ++ quote ∷ []) c.more n count in
    (omega (arith, ap length split, length-append (c.body ++ quote ∷ []) c.more, count), record { body = c.body; quotable = c.quotable; written = ap (λ (l : List ℕ). quote ∷ l) taken })

pub longest_quoted : (quote : ℕ) → Quoting quote → ((text : List ℕ) → IsQuoted quote text → Lexeme text) → ((xs : List ℕ) → Lexeme (quote ∷ xs) → IsQuoted quote (quote ∷ xs)) → (bytes : List ℕ) (n : ℕ) → closed_at quote false 0 bytes ≡ Some n → Longest Lexeme (quote ∷ bytes) (suc n)
longest_quoted quote q make only bytes n is =
    let t = quoted_taken quote bytes n is in
    record { there = omega (arith, t.0); formed = make (quote ∷ take n bytes) t.1; most = most }
  where
    most : (k : ℕ) → suc n < k → k ≤ length (quote ∷ bytes) → Lexeme (take k (quote ∷ bytes)) → ⊥
    most zero more within lexeme = absurd (omega arith)
    most (suc k) more within lexeme =
        let other : closed_at quote false 0 bytes ≡ Some k = quoted_found quote q bytes k (omega arith) (only (take k bytes) lexeme) in
        let same : n ≡ k = cc (sym is ∙ other) in
        absurd (omega arith)

-- marks at the front of some bytes
pub data MarkSeen (rest : List ℕ) : Type 0 where
  seen : (m : Mark) (n : ℕ) → mark_sight rest ≡ Token (AMark m) n → 0 < n → n ≤ length rest → take n rest ≡ mark_text m → ((k : ℕ) (other : Mark) → n < k → k ≤ length rest → take k rest ≡ mark_text other → ⊥) → MarkSeen rest
  unseen : mark_sight rest ≡ Fault BadByte → ((k : ℕ) (other : Mark) → k ≤ length rest → take k rest ≡ mark_text other → ⊥) → MarkSeen rest

abbrev three : List ℕ → Option Mark
three rest = mark_of_three (slice_index rest 0) (slice_index rest 1) (slice_index rest 2)

abbrev two : List ℕ → Option Mark
two rest = mark_of_two (slice_index rest 0) (slice_index rest 1)

abbrev one : List ℕ → Option Mark
one rest = mark_of_one (slice_index rest 0)

marks_at : (rest : List ℕ) (k : ℕ) (m : Mark) → k ≤ length rest → take k rest ≡ mark_text m → ((k ≡ 1) × (one rest ≡ Some m)) ⊎ (((k ≡ 2) × (two rest ≡ Some m)) ⊎ ((k ≡ 3) × (three rest ≡ Some m)))
marks_at rest zero m within e = absurd (cc (ap unmark e ∙ unmarked m))
marks_at [] (suc k) m within e = absurd (omega arith)
marks_at (a ∷ rest) (suc zero) m within e = inl (refl, ap unmark e ∙ unmarked m)
marks_at (a ∷ []) (suc (suc k)) m within e = absurd (omega arith)
marks_at (a ∷ b ∷ rest) (suc (suc zero)) m within e = inr (inl (refl, ap unmark e ∙ unmarked m))
marks_at (a ∷ b ∷ []) (suc (suc (suc k))) m within e = absurd (omega arith)
marks_at (a ∷ b ∷ c ∷ rest) (suc (suc (suc zero))) m within e = inr (inr (refl, ap unmark e ∙ unmarked m))
marks_at (a ∷ b ∷ c ∷ []) (suc (suc (suc (suc k)))) m within e = absurd (omega arith)
marks_at (a ∷ b ∷ c ∷ d ∷ rest) (suc (suc (suc (suc k)))) m within e = absurd (cc (ap unmark e ∙ unmarked m))

zero_free : (m : Mark) (text : List ℕ) → mark_text m ≡ text → no_zero text ≡ true
zero_free m text e = ap no_zero (sym e) ∙ mark_no_zero m

end_zero : (t : Bool) → (t && false) ≡ true → ⊥
end_zero true h = cc h
end_zero false h = cc h

one_there : (rest : List ℕ) (m : Mark) → one rest ≡ Some m → (1 ≤ length rest) × (take 1 rest ≡ mark_text m)
one_there [] m e = absurd (cc (zero_free m (0 ∷ []) (one_is 0 m e)))
one_there (a ∷ rest) m e = (omega arith, sym (one_is a m e))

two_there : (rest : List ℕ) (m : Mark) → two rest ≡ Some m → (2 ≤ length rest) × (take 2 rest ≡ mark_text m)
two_there [] m e = absurd (cc (zero_free m (0 ∷ 0 ∷ []) (two_is 0 0 m e)))
two_there (a ∷ []) m e = absurd (end_zero (not (a == 0)) (zero_free m (a ∷ 0 ∷ []) (two_is a 0 m e)))
two_there (a ∷ b ∷ rest) m e = (omega arith, sym (two_is a b m e))

three_there : (rest : List ℕ) (m : Mark) → three rest ≡ Some m → (3 ≤ length rest) × (take 3 rest ≡ mark_text m)
three_there [] m e = absurd (cc (zero_free m (0 ∷ 0 ∷ 0 ∷ []) (three_is 0 0 0 m e)))
three_there (a ∷ []) m e = absurd (end_zero (not (a == 0)) (zero_free m (a ∷ 0 ∷ 0 ∷ []) (three_is a 0 0 m e)))
three_there (a ∷ b ∷ []) m e = absurd (end_zero (not (b == 0)) (and_parts (not (a == 0)) (not (b == 0) && false) (zero_free m (a ∷ b ∷ 0 ∷ []) (three_is a b 0 m e))).1)
three_there (a ∷ b ∷ c ∷ rest) m e = (omega arith, sym (three_is a b c m e))

pub mark_seen : (rest : List ℕ) → MarkSeen rest
mark_seen rest = by_three (three rest) refl
  where
    none_some : (o : Option Mark) (m : Mark) → o ≡ None → o ≡ Some m → ⊥
    none_some o m e f = cc (sym e ∙ f)

    by_one : (z : Option Mark) → one rest ≡ z → two rest ≡ None → three rest ≡ None → MarkSeen rest
    by_one (Some m) z y x =
        let at = one_there rest m z in
        seen m 1 (ap (λ (o : Option Mark). mark_sight_of o 3 (mark_sight_of (two rest) 2 (mark_sight_of (one rest) 1 (Fault BadByte)))) x ∙ ap (λ (o : Option Mark). mark_sight_of o 2 (mark_sight_of (one rest) 1 (Fault BadByte))) y ∙ ap (λ (o : Option Mark). mark_sight_of o 1 (Fault BadByte)) z) (omega arith) at.0 at.1
        (λ k other more within e. elim (marks_at rest k other within e) [
          | inl h ↦ absurd (omega (arith, h.0))
          | inr g ↦ elim g [ inl h ↦ none_some (two rest) other y h.1 | inr h ↦ none_some (three rest) other x h.1 ]
        ])
    by_one None z y x =
        unseen (ap (λ (o : Option Mark). mark_sight_of o 3 (mark_sight_of (two rest) 2 (mark_sight_of (one rest) 1 (Fault BadByte)))) x ∙ ap (λ (o : Option Mark). mark_sight_of o 2 (mark_sight_of (one rest) 1 (Fault BadByte))) y ∙ ap (λ (o : Option Mark). mark_sight_of o 1 (Fault BadByte)) z)
        (λ k other within e. elim (marks_at rest k other within e) [
          | inl h ↦ none_some (one rest) other z h.1
          | inr g ↦ elim g [ inl h ↦ none_some (two rest) other y h.1 | inr h ↦ none_some (three rest) other x h.1 ]
        ])

    by_two : (y : Option Mark) → two rest ≡ y → three rest ≡ None → MarkSeen rest
    by_two (Some m) y x =
        let at = two_there rest m y in
        seen m 2 (ap (λ (o : Option Mark). mark_sight_of o 3 (mark_sight_of (two rest) 2 (mark_sight_of (one rest) 1 (Fault BadByte)))) x ∙ ap (λ (o : Option Mark). mark_sight_of o 2 (mark_sight_of (one rest) 1 (Fault BadByte))) y) (omega arith) at.0 at.1
        (λ k other more within e. elim (marks_at rest k other within e) [
          | inl h ↦ absurd (omega (arith, h.0))
          | inr g ↦ elim g [ inl h ↦ absurd (omega (arith, h.0)) | inr h ↦ none_some (three rest) other x h.1 ]
        ])
    by_two None y x = by_one (one rest) refl y x

    by_three : (x : Option Mark) → three rest ≡ x → MarkSeen rest
    by_three (Some m) x =
        let at = three_there rest m x in
        seen m 3 (ap (λ (o : Option Mark). mark_sight_of o 3 (mark_sight_of (two rest) 2 (mark_sight_of (one rest) 1 (Fault BadByte)))) x) (omega arith) at.0 at.1
        (λ k other more within e. elim (marks_at rest k other within e) [
          | inl h ↦ absurd (omega (arith, h.0))
          | inr g ↦ elim g [ inl h ↦ absurd (omega (arith, h.0)) | inr h ↦ absurd (omega (arith, h.0)) ]
        ])
    by_three None x = by_two (two rest) refl x
