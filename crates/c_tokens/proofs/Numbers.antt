-- Preprocessing numbers, byte by byte.
use Rattle.std.proofs.Common.{◌≡◌, ℕ, zero, suc, ◌+◌, ◌≤◌, List, [], ◌∷◌, ◌++◌, length, take, refl, sym, ◌∙◌, ap, subst, arith, Bool, true, false, inl, inr, ◌⊎◌, append_assoc, append-nil}
use Rattle.std.specs.Prelude.{◌==◌, ◌||◌, ◌&&◌, slice_index, if◌then◌else◌}
use Rattle.std.proofs.lemmas.Bool.{or_cases, or_left, or_right, and_parts, and_from, eqb-true}
use Rattle.c_lexer.specs.Bytes.{is_letter, is_digit, is_word_byte, is_sign, is_exponent, goes_on}
use Rattle.c_lexer.specs.Scan.{number_from}
use Rattle.c_lexer.specs.Steps.{begins_number}
use Rattle.c_tokens.proofs.Classes.{digit_no_exponent, sign_no_exponent}
use Rattle.c_tokens.specs.Forms.{PpNumber}
use Rattle.c_tokens.specs.Forms.PpNumber.{a_digit, a_point, one_more, exponent}

-- bytes that a number goes on with after this one
abbrev pub GoesOn : ℕ → List ℕ → Type 0
GoesOn before [] = Unit {0}
GoesOn before (b ∷ bytes) = (goes_on before b ≡ true) × GoesOn b bytes

abbrev pub IsNumber : List ℕ → Type 0
IsNumber [] = ⊥
IsNumber (b ∷ bytes) = (begins_number b (slice_index bytes 0) ≡ true) × GoesOn b bytes

abbrev last_of : ℕ → List ℕ → ℕ
last_of f [] = f
last_of f (x ∷ xs) = last_of x xs

goes_append : (f : ℕ) (xs ys : List ℕ) → GoesOn f xs → GoesOn (last_of f xs) ys → GoesOn f (xs ++ ys)
goes_append f [] ys goes more = more
goes_append f (x ∷ xs) ys goes more = (goes.0, goes_append x xs ys goes.1 more)

first_later : (f : ℕ) (xs ys : List ℕ) → begins_number f (slice_index xs 0) ≡ true → begins_number f (slice_index (xs ++ ys) 0) ≡ true
first_later f [] ys e = elim (or_cases (is_digit f) ((f == 46) && is_digit 0) e) [
  | inl digit ↦ or_left (is_digit f) _ digit
  | inr point ↦ absurd (no_digit (f == 46) point)
]
  where
    no_digit : (t : Bool) → (t && false) ≡ true → ⊥
    no_digit true h = cc h
    no_digit false h = cc h
first_later f (x ∷ xs) ys e = e

joined : (x front more : List ℕ) → IsNumber front → ((f : ℕ) → GoesOn f more) → x ≡ front ++ more → IsNumber x
joined x [] more number goes is = absurd number
joined x (f ∷ fs) more number goes is = subst IsNumber (sym is) (first_later f fs more number.0, goes_append f fs more number.1 (goes (last_of f fs)))

goes_letter : (before b : ℕ) → is_letter b ≡ true → goes_on before b ≡ true
goes_letter before b letter = or_left (is_word_byte b || (b == 46)) _ (or_left (is_word_byte b) (b == 46) (or_left (is_letter b) (is_digit b) letter))

goes_digit : (before b : ℕ) → is_digit b ≡ true → goes_on before b ≡ true
goes_digit before b digit = or_left (is_word_byte b || (b == 46)) _ (or_left (is_word_byte b) (b == 46) (or_right (is_letter b) (is_digit b) digit))

goes_sign : (e s : ℕ) → is_exponent e ≡ true → is_sign s ≡ true → goes_on e s ≡ true
goes_sign e s first second = or_right (is_word_byte s || (s == 46)) _ (and_from (is_exponent e) (is_sign s) first second)

pub number_read : (x : List ℕ) → PpNumber x → IsNumber x
number_read x (a_digit d digit is) = subst IsNumber (sym is) (or_left (is_digit d) _ digit, tt)
number_read x (a_point d digit is) = subst IsNumber (sym is) (digit, (goes_digit 46 d digit, tt))
number_read x (one_more front b number plain is) = joined x front (b ∷ []) (number_read front number) (λ f. (or_left (is_word_byte b || (b == 46)) _ plain, tt)) is
number_read x (exponent front e s number first second is) =
    joined x front (e ∷ s ∷ []) (number_read front number) (λ f. (goes_letter f e (exponent_letter e first), (goes_sign e s first second, tt))) is
  where
    exponent_letter : (e : ℕ) → is_exponent e ≡ true → is_letter e ≡ true
    exponent_letter e first = elim (or_cases ((e == 101) || (e == 69) || (e == 112)) (e == 80) first) [
      | inr a ↦ ap is_letter (eqb-true e 80 a)
      | inl more ↦ elim (or_cases ((e == 101) || (e == 69)) (e == 112) more) [
        | inr a ↦ ap is_letter (eqb-true e 112 a)
        | inl last ↦ elim (or_cases (e == 101) (e == 69) last) [ inl a ↦ ap is_letter (eqb-true e 101 a) | inr a ↦ ap is_letter (eqb-true e 69 a) ]
      ]
    ]

goes_cases : (before b : ℕ) → goes_on before b ≡ true → ((is_word_byte b || (b == 46)) ≡ true) ⊎ ((is_exponent before ≡ true) × (is_sign b ≡ true))
goes_cases before b goes = elim (or_cases (is_word_byte b || (b == 46)) (is_exponent before && is_sign b) goes) [
  | inl plain ↦ inl plain
  | inr signed ↦ inr (and_parts (is_exponent before) (is_sign b) signed)
]

-- a number that was read, whose last byte, where it is an exponent's letter, follows a number
from_goes : (xs t : List ℕ) (before : ℕ) → PpNumber t → (is_exponent before ≡ true → (f : List ℕ) × PpNumber f × (t ≡ f ++ before ∷ [])) → GoesOn before xs → PpNumber (t ++ xs)
from_goes [] t before number last goes = subst PpNumber (sym (append-nil t)) number
from_goes (b ∷ xs) t before number last goes =
    subst PpNumber (append_assoc t (b ∷ []) xs)
    (elim (goes_cases before b goes.0) [
      | inl plain ↦ from_goes xs (t ++ b ∷ []) b (one_more t b number plain refl) (λ e. (t, number, refl)) goes.1
      | inr signed ↦ from_goes xs (t ++ b ∷ []) b (with_sign (last signed.0) signed.0 signed.1) (λ e. absurd (sign_no_exponent b signed.1 e)) goes.1
    ])
  where
    with_sign : (f : List ℕ) × PpNumber f × (t ≡ f ++ before ∷ []) → is_exponent before ≡ true → is_sign b ≡ true → PpNumber (t ++ b ∷ [])
    with_sign found first second = exponent found.0 before b found.1 first second (ap (λ (l : List ℕ). l ++ b ∷ []) found.2 ∙ append_assoc found.0 (before ∷ []) (b ∷ []))

pub number_made : (x : List ℕ) → IsNumber x → PpNumber x
number_made [] number = absurd number
number_made (b ∷ bytes) number = elim (or_cases (is_digit b) ((b == 46) && is_digit (slice_index bytes 0)) number.0) [
  | inl digit ↦ from_goes bytes (b ∷ []) b (a_digit b digit refl) (λ e. absurd (digit_no_exponent b digit e)) number.1
  | inr point ↦ after_point bytes (and_parts (b == 46) (is_digit (slice_index bytes 0)) point) number.1
]
  where
    after_point : (ds : List ℕ) → ((b == 46) ≡ true) × (is_digit (slice_index ds 0) ≡ true) → GoesOn b ds → PpNumber (b ∷ ds)
    after_point [] is goes = absurd (cc is.1)
    after_point (d ∷ ds) is goes =
        let at : b ≡ 46 = eqb-true b 46 is.0 in
        from_goes ds (b ∷ d ∷ []) d (a_point d is.1 (ap (λ (n : ℕ). n ∷ d ∷ []) at)) (λ e. absurd (digit_no_exponent d is.1 e)) goes.1

-- how far a number goes on
abbrev pub goes_for : ℕ → List ℕ → ℕ
goes_for before [] = 0
goes_for before (b ∷ bytes) = if goes_on before b then suc (goes_for b bytes) else 0

pub number_width : (w before : ℕ) (xs : List ℕ) → number_from w before xs ≡ w + goes_for before xs
number_width w before [] = omega arith
number_width w before (b ∷ xs) = by_test (goes_on before b) (number_width (w + 1) b xs)
  where
    by_test : (t : Bool) → number_from (w + 1) b xs ≡ w + 1 + goes_for b xs → (if t then number_from (w + 1) b xs else w) ≡ w + (if t then suc (goes_for b xs) else 0)
    by_test true e = omega (arith, e)
    by_test false e = omega arith

pub goes_fits : (before : ℕ) (xs : List ℕ) → goes_for before xs ≤ length xs
goes_fits before [] = omega arith
goes_fits before (b ∷ xs) = by_test (goes_on before b) (goes_fits b xs)
  where
    by_test : (t : Bool) → goes_for b xs ≤ length xs → (if t then suc (goes_for b xs) else 0) ≤ length (b ∷ xs)
    by_test true e = omega arith
    by_test false e = omega arith

pub goes_taken : (before : ℕ) (xs : List ℕ) → GoesOn before (take (goes_for before xs) xs)
goes_taken before [] = tt
goes_taken before (b ∷ xs) = by_test (goes_on before b) refl (goes_taken b xs)
  where
    by_test : (t : Bool) → goes_on before b ≡ t → GoesOn b (take (goes_for b xs) xs) → GoesOn before (take (if t then suc (goes_for b xs) else 0) (b ∷ xs))
    by_test true e rest = (e, rest)
    by_test false e rest = tt

pub goes_most : (before : ℕ) (xs : List ℕ) (n : ℕ) → n ≤ length xs → GoesOn before (take n xs) → n ≤ goes_for before xs
goes_most before xs zero le goes = omega arith
goes_most before [] (suc n) le goes = absurd (omega arith)
goes_most before (b ∷ xs) (suc n) le goes = by_test (goes_on before b) goes.0 (goes_most b xs n (omega arith) goes.1)
  where
    by_test : (t : Bool) → t ≡ true → n ≤ goes_for b xs → suc n ≤ (if t then suc (goes_for b xs) else 0)
    by_test true e below = omega arith
    by_test false e below = absurd (cc e)

-- the first byte of a number decides, with the second
pub begins_taken : (b : ℕ) (xs : List ℕ) (n : ℕ) → begins_number b (slice_index (take n xs) 0) ≡ true → begins_number b (slice_index xs 0) ≡ true
begins_taken b xs zero e = elim (or_cases (is_digit b) ((b == 46) && false) e) [
  | inl digit ↦ or_left (is_digit b) _ digit
  | inr point ↦ absurd (no_digit (b == 46) point)
]
  where
    no_digit : (t : Bool) → (t && false) ≡ true → ⊥
    no_digit true h = cc h
    no_digit false h = cc h
begins_taken b [] (suc n) e = e
begins_taken b (x ∷ xs) (suc n) e = e

pub begins_take : (b : ℕ) (xs : List ℕ) → begins_number b (slice_index xs 0) ≡ true → begins_number b (slice_index (take (goes_for b xs) xs) 0) ≡ true
begins_take b [] e = e
begins_take b (x ∷ xs) e = elim (or_cases (is_digit b) ((b == 46) && is_digit x) e) [
  | inl digit ↦ or_left (is_digit b) _ digit
  | inr point ↦ by_test (goes_on b x) (goes_digit b x (and_parts (b == 46) (is_digit x) point).1)
]
  where
    by_test : (t : Bool) → t ≡ true → begins_number b (slice_index (take (if t then suc (goes_for x xs) else 0) (x ∷ xs)) 0) ≡ true
    by_test true h = e
    by_test false h = absurd (cc h)

-- the bytes of a number from its first byte on
pub number_front : (b : ℕ) (bytes : List ℕ) → begins_number b (slice_index bytes 0) ≡ true → PpNumber (b ∷ take (goes_for b bytes) bytes)
number_front b bytes e = number_made (b ∷ take (goes_for b bytes) bytes) (begins_take b bytes e, goes_taken b bytes)
