-- Character constants between their quotes.
use Rattle.std.proofs.Common.{◌≡◌, ℕ, ◌≤◌, List, [], ◌∷◌, ◌++◌, length, refl, sym, ◌∙◌, ap, arith, Bool, true, false, inl, inr, ℤ}
use Rattle.std.specs.Prelude.{◌==◌, ◌&&◌, not, slice_index, if◌then◌else◌, Some, None, pos}
use Rattle.std.proofs.lemmas.Bool.{and_parts, and_from, eqb-true, not_from_false, ne_eqb}
use Rattle.std.proofs.lemmas.Bool.Decides.{nat_tests}
use Rattle.c_lexer.specs.Bytes.{is_plain, is_between, is_line_end}
use Rattle.c_lexer.specs.Constants.{escape_of, letter_of}
use Rattle.c_tokens.specs.Constants.{IsCharacter}
use Rattle.c_tokens.specs.Forms.{Quotable, IsQuoted, is_itself}
use Rattle.c_tokens.specs.Forms.Quotable.{nothing, itself, escaped}

plain_itself : (b : ℕ) → is_plain b ≡ true → is_itself 39 b ≡ true
plain_itself b e =
    let p = and_parts (is_between 32 126 b && not (b == 39)) (not (b == 92)) e in
    let q = and_parts (is_between 32 126 b) (not (b == 39)) p.0 in
    and_from (not (b == 39) && not (b == 92)) (not (is_line_end b)) (and_from (not (b == 39)) (not (b == 92)) q.1 p.1) (not_from_false (is_line_end b) (no_end q.0))
  where
    no_end : is_between 32 126 b ≡ true → is_line_end b ≡ false
    no_end h = grind (arith, nat_tests)

escape_itself : (b : ℕ) (value : ℤ) → escape_of b ≡ Some value → is_line_end b ≡ false
escape_itself b value e = by_test (is_line_end b) refl
  where
    by_test : (t : Bool) → is_line_end b ≡ t → t ≡ false
    by_test false h = refl
    by_test true h = absurd (cc (sym (ap escape_of (eqb-true b 10 h)) ∙ e))

pub character_quoted : (value : ℤ) (text : List ℕ) → IsCharacter value text → IsQuoted 39 text
character_quoted value text (inl c) = record { body = c.0 ∷ []; quotable = itself c.0 [] (plain_itself c.0 c.2) (nothing refl) refl; written = c.1 }
character_quoted value text (inr c) = record { body = 92 ∷ c.0 ∷ []; quotable = escaped c.0 [] (escape_itself c.0 value c.2) (nothing refl) refl; written = c.1 }

-- what a closed character constant is worth
pub letter_is : (text : List ℕ) (value : ℤ) → IsQuoted 39 text → letter_of text ≡ Some value → IsCharacter value text
letter_is text value q e = by_body q.body q.quotable q.written
  where
    plain_value : (b : ℕ) (t : Bool) → is_plain b ≡ t → text ≡ 39 ∷ b ∷ 39 ∷ [] → (if t then Some (pos b) else None) ≡ Some value → IsCharacter value text
    plain_value b true t is h = inl (b, is, t, cc (sym h))
    plain_value b false t is h = absurd (cc h)

    escape_value : (a b : ℕ) (t : Bool) → (a == 92) ≡ t → text ≡ 39 ∷ a ∷ b ∷ 39 ∷ [] → (if t then escape_of b else None) ≡ Some value → IsCharacter value text
    escape_value a b true t is h = inr (b, is ∙ ap (λ (n : ℕ). 39 ∷ n ∷ b ∷ 39 ∷ []) (eqb-true a 92 t), h)
    escape_value a b false t is h = absurd (cc h)

    by_body : (body : List ℕ) → Quotable 39 body → text ≡ 39 ∷ (body ++ 39 ∷ []) → IsCharacter value text
    by_body [] quotable is = absurd (cc (sym (ap letter_of is) ∙ e))
    by_body (b ∷ []) quotable is = plain_value b (is_plain b) refl is (sym (ap letter_of is) ∙ e)
    by_body (a ∷ b ∷ []) quotable is = escape_value a b (a == 92) refl is (sym (ap letter_of is) ∙ e)
    by_body (a ∷ b ∷ c ∷ []) quotable is = absurd (cc (sym (ap letter_of is) ∙ e))
    by_body (a ∷ b ∷ c ∷ d ∷ rest) quotable is = absurd (longer a b c d rest is)
      where
        longer : (a b c d : ℕ) (rest : List ℕ) → text ≡ 39 ∷ a ∷ b ∷ c ∷ d ∷ (rest ++ 39 ∷ []) → ⊥
        longer a b c d rest is =
            let long : 5 ≤ length text = omega (arith, ap length is) in
            let no_three : (length text == 3) ≡ false = ne_eqb (length text) 3 (λ h. absurd (omega arith)) in
            let no_four : (length text == 4) ≡ false = ne_eqb (length text) 4 (λ h. absurd (omega arith)) in
            let none : letter_of text ≡ None =
            ap (λ (t : Bool). if t && is_plain (slice_index text 1) then Some (pos (slice_index text 1)) else if (length text == 4) && (slice_index text 1 == 92) then escape_of (slice_index text 2) else None) no_three
            ∙ ap (λ (t : Bool). if t && (slice_index text 1 == 92) then escape_of (slice_index text 2) else None) no_four in
            cc (sym none ∙ e)
