-- Names and numbers are read as they are meant.
use Rattle.std.proofs.Common.{◌≡◌, ◌∙◌, ap, sym, subst, refl, ℕ, zero, suc, ◌<◌, ◌≤◌, ◌+◌, ◌-◌, ◌*◌, ◌/◌, ◌%◌, ◌^◌, List, [], ◌∷◌, ◌++◌, length, take, drop, Bool, true, false, lt-ltb, if◌then◌else◌, cond, arith}
use Rattle.std.specs.Prelude.{Option, Some, None, ◌==◌, ◌&&◌, ◌||◌, nat_lt, slice_index}
use Rattle.std.specs.List.{prefix_len}
use Rattle.std.specs.Option.{option_and_then}
use Rattle.std.specs.Fmt.{decimal}
use Rattle.std.proofs.Math.Seq.{take-append_seam}
use Rattle.std.proofs.lemmas.Bool.{lt-leb, ne_eqb}
use Rattle.std.proofs.lemmas.Bool.Decides.{nat_tests}
use Rattle.std.proofs.lemmas.Fmt.{decimal_by_steps, decimal_digit}
use Rattle.c_lexer.specs.Bytes.{is_between, is_blank, is_letter, is_digit, is_word_byte, is_sign, is_exponent}
use Rattle.c_lexer.specs.Constants.{digit_worth, is_digit_of, value_from, formed, suffix_of, constant_of}
use Rattle.c_lexer.specs.Scan.{number_from}
use Rattle.c_lexer.specs.Steps.{step_of, word_step, number_step, number_step_of, begins_number}
use Rattle.c_lexer.specs.Lexed.{stepped}
use Rattle.c_lexer.specs.declared.token.Token.{Token as AToken}
use Rattle.c_lexer.specs.declared.token.NumberForm.{NumberForm}
use Rattle.c_lexer.specs.declared.token.TokenKind.TheVariants.{Word, Number}
use Rattle.c_tree.specs.declared.symbol.Keyword.{Keyword}
use Rattle.c_tree.specs.declared.symbol.Symbol.{Symbol}
use Rattle.c_tree.specs.declared.symbol.Symbol.TheVariants as sy
use Rattle.c_tree.specs.Symbols.{word_symbol}
use Rattle.witness_truth_laws.specs.Trees.{plain_form}
use Rattle.witness_text_laws.specs.Names.{AreWordBytes, IsName, IsConstant}
use Rattle.witness_text_laws.proofs.Steps.{Lexes, Stops, GoesOn, given, one}

-- ---- Words

prefix-words : (y rest : List ℕ) → AreWordBytes y → Stops rest → prefix_len is_word_byte (y ++ rest) ≡ length y
prefix-words [] [] h s = refl
prefix-words [] (b ∷ rest) h s = ap (λ (z : Bool). cond z (1 + prefix_len is_word_byte rest) 0) s.0
prefix-words (b ∷ y) rest h s = ap (λ (z : Bool). cond z (1 + prefix_len is_word_byte (y ++ rest)) 0) h.0 ∙ ap (λ (n : ℕ). 1 + n) (prefix-words y rest h.1 s) ∙ omega arith

letter-no-blank : (b : ℕ) → is_letter b ≡ true → is_blank b ≡ false
letter-no-blank b is = grind (arith, nat_tests)

second : {A : Type 0} (y z : Bool) (a b c : A) → y ≡ false → z ≡ true → (if y then a else (if z then b else c)) ≡ b
second true z a b c e f = absurd cc
second false true a b c e f = refl
second false false a b c e f = absurd cc

third : {A : Type 0} (x y z : Bool) (a b c d : A) → x ≡ false → y ≡ false → z ≡ true → (if x then a else (if y then b else (if z then c else d))) ≡ c
third true y z a b c d e f g = absurd cc
third false y z a b c d e f g = second y z b c d f g

word-step : (b : ℕ) (y rest : List ℕ) → is_letter b ≡ true → (fresh : Bool) → step_of fresh ((b ∷ y) ++ rest) ≡ word_step ((b ∷ y) ++ rest)
word-step b y rest is fresh = second (is_blank b) (is_letter b) _ _ _ (letter-no-blank b is) is

word-read : (b : ℕ) (y rest : List ℕ) → is_letter b ≡ true → AreWordBytes y → Stops rest → (fresh : Bool) (at : ℕ) (before : List AToken) (go : GoesOn)
    → stepped (step_of fresh ((b ∷ y) ++ rest)) at before go ≡ given (Word (b ∷ y)) (suc (length y)) at before go
word-read b y rest is h s fresh at before go =
    let r : List ℕ = (b ∷ y) ++ rest in
    let whole : AreWordBytes (b ∷ y) = (ap (λ (z : Bool). z || is_digit b) is, h) in
    ap (λ z. stepped z at before go) (word-step b y rest is fresh)
    ∙ ap (λ (w : ℕ). given (Word (take w r)) w at before go) (prefix-words (b ∷ y) rest whole s)
    ∙ ap (λ (t : List ℕ). given (Word t) (suc (length y)) at before go) (take-append_seam (b ∷ y) rest)

pub names : (name : List ℕ) → IsName name → Lexes Stops name (sy.Name name ∷ [])
names [] h = absurd h
names (b ∷ y) h =
    subst (λ (ks : List Symbol). Lexes Stops (b ∷ y) ks) (ap (λ (k : Option Keyword). word_symbol (b ∷ y) k ∷ []) h.2)
    (one Stops b y (Word (b ∷ y)) (λ rest s fresh at before go. word-read b y rest h.0 h.1 s fresh at before go))

-- ---- Numbers

abbrev AreDigits : List ℕ → Type 0
AreDigits [] = Unit {0}
AreDigits (d ∷ ds) = (is_digit d ≡ true) × AreDigits ds

none : (a b e s : Bool) → a ≡ false → b ≡ false → s ≡ false → (a || b || (e && s)) ≡ false
none true b e s p q r = absurd cc
none false true e s p q r = absurd cc
none false false true s p q r = r
none false false false s p q r = refl

or-true : (l : Bool) → (l || true) ≡ true
or-true true = refl
or-true false = refl

digit-word : (d : ℕ) → is_digit d ≡ true → is_word_byte d ≡ true
digit-word d is = ap (λ (z : Bool). is_letter d || z) is ∙ or-true (is_letter d)

number-width : (w before : ℕ) (ds rest : List ℕ) → AreDigits ds → Stops rest → number_from w before (ds ++ rest) ≡ w + length ds
number-width w before [] [] h s = omega arith
number-width w before [] (b ∷ rest) h s =
    ap (λ (z : Bool). if z then number_from (w + 1) b rest else w) (none (is_word_byte b) (b == 46) (is_exponent before) (is_sign b) s.0 s.1 s.2) ∙ omega arith
number-width w before (d ∷ ds) rest h s =
    ap (λ (z : Bool). if z || (d == 46) || (is_exponent before && is_sign d) then number_from (w + 1) d (ds ++ rest) else w) (digit-word d h.0)
    ∙ number-width (w + 1) d ds rest h.1 s ∙ omega arith

digit-no-blank : (d : ℕ) → is_digit d ≡ true → (is_blank d ≡ false) × (is_letter d ≡ false)
digit-no-blank d is = (grind (arith, nat_tests), grind (arith, nat_tests))

number-step : (d : ℕ) (ds rest : List ℕ) → is_digit d ≡ true → (fresh : Bool) → step_of fresh ((d ∷ ds) ++ rest) ≡ number_step ((d ∷ ds) ++ rest)
number-step d ds rest is fresh =
    let no = digit-no-blank d is in
    third (is_blank d) (is_letter d) (begins_number d (slice_index ((d ∷ ds) ++ rest) 1)) _ _ _ _ no.0 no.1 (ap (λ (z : Bool). z || ((d == 46) && is_digit (slice_index ((d ∷ ds) ++ rest) 1))) is)

number-read : (d : ℕ) (ds rest : List ℕ) (n : ℕ) (form : NumberForm) → AreDigits (d ∷ ds) → Stops rest → constant_of (d ∷ ds) ≡ Some (n, form) → (fresh : Bool) (at : ℕ) (before : List AToken) (go : GoesOn)
    → stepped (step_of fresh ((d ∷ ds) ++ rest)) at before go ≡ given (Number n form) (suc (length ds)) at before go
number-read d ds rest n form h s c fresh at before go =
    let r : List ℕ = (d ∷ ds) ++ rest in
    let width : number_from 1 d (ds ++ rest) ≡ suc (length ds) = number-width 1 d ds rest h.1 s ∙ omega arith in
    ap (λ z. stepped z at before go) (number-step d ds rest h.0 fresh)
    ∙ ap (λ (w : ℕ). stepped (number_step_of (constant_of (take w r)) w) at before go) width
    ∙ ap (λ (t : List ℕ). stepped (number_step_of (constant_of t) (suc (length ds))) at before go) (take-append_seam (d ∷ ds) rest)
    ∙ ap (λ (o : Option (ℕ × NumberForm)). stepped (number_step_of o (suc (length ds))) at before go) c

-- ---- Decimal digits

abbrev FirstIsNot : List ℕ → Type 0
FirstIsNot [] = ⊥
FirstIsNot (d ∷ ds) = (d == 48) ≡ false

record IsDecimal (n : ℕ) (ds : List ℕ) : Type 0 where
  digits : AreDigits ds
  value : n < 2 ^ 64 → value_from 10 0 ds ≡ Some n
  first : 0 < n → FirstIsNot ds

glyph-is : (n : ℕ) → n < 10 → is_digit (48 + n) ≡ true
glyph-is n lt = grind (arith, nat_tests)

glyph-worth : (n : ℕ) → n < 10 → digit_worth (48 + n) ≡ n
glyph-worth n lt = ap (λ (z : Bool). if z then 48 + n - 48 else (if is_between 97 102 (48 + n) then 48 + n - 87 else (if is_between 65 70 (48 + n) then 48 + n - 55 else 16))) (glyph-is n lt) ∙ omega arith

digits-append : (xs ys : List ℕ) → AreDigits xs → AreDigits ys → AreDigits (xs ++ ys)
digits-append [] ys h k = k
digits-append (x ∷ xs) ys h k = (h.0, digits-append xs ys h.1 k)

first-append : (xs ys : List ℕ) → FirstIsNot xs → FirstIsNot (xs ++ ys)
first-append [] ys h = absurd h
first-append (x ∷ xs) ys h = h

-- one more digit
value-more : (v m d : ℕ) (ds : List ℕ) → value_from 10 v ds ≡ Some m → m * 10 + digit_worth d < 2 ^ 64 → value_from 10 v (ds ++ d ∷ []) ≡ Some (m * 10 + digit_worth d)
value-more v m d [] e lt =
    let same : v ≡ m = cc in
    ap (λ (n : ℕ). if nat_lt (n * 10 + digit_worth d) (2 ^ 64) then Some (n * 10 + digit_worth d) else None) same
    ∙ ap (λ (z : Bool). if z then Some (m * 10 + digit_worth d) else None) (lt-ltb (m * 10 + digit_worth d) (2 ^ 64) lt)
value-more v m d (x ∷ ds) e lt = go (nat_lt (v * 10 + digit_worth x) (2 ^ 64)) e (λ f. value-more (v * 10 + digit_worth x) m d ds f lt)
  where
    go : (z : Bool) → (if z then value_from 10 (v * 10 + digit_worth x) ds else None) ≡ Some m
        → (value_from 10 (v * 10 + digit_worth x) ds ≡ Some m → value_from 10 (v * 10 + digit_worth x) (ds ++ d ∷ []) ≡ Some (m * 10 + digit_worth d))
        → (if z then value_from 10 (v * 10 + digit_worth x) (ds ++ d ∷ []) else None) ≡ Some (m * 10 + digit_worth d)
    go true f h = h f
    go false f h = absurd cc

one-digit : (n : ℕ) → n < 10 → IsDecimal n ((48 + n) ∷ [])
one-digit n lt = record {
  digits = (glyph-is n lt, tt);
  value = λ small.
      let worth : 0 * 10 + digit_worth (48 + n) ≡ n = omega (arith, glyph-worth n lt) in
      ap (λ (m : ℕ). if nat_lt m (2 ^ 64) then Some m else None) worth ∙ ap (λ (z : Bool). if z then Some n else None) (lt-ltb n (2 ^ 64) small);
  first = λ some. ne_eqb (48 + n) 48 (λ e. omega (arith, e, some));
}

more-digits : (n : ℕ) (ds : List ℕ) → 10 ≤ n → IsDecimal (n / 10) ds → IsDecimal n (ds ++ ((48 + n % 10) ∷ []))
more-digits n ds le h = record {
  digits = digits-append ds ((48 + n % 10) ∷ []) h.digits (glyph-is (n % 10) (omega arith), tt);
  value = λ small.
      let worth : n / 10 * 10 + digit_worth (48 + n % 10) ≡ n = omega (arith, glyph-worth (n % 10) (omega arith)) in
      value-more 0 (n / 10) (48 + n % 10) ds (h.value (omega (arith, small))) (omega (arith, worth, small)) ∙ ap (λ (m : ℕ). Some m) worth;
  first = λ some. first-append ds ((48 + n % 10) ∷ []) (h.first (omega (arith, le)));
}

decimal-is : (n : ℕ) → n < 2 ^ 64 → IsDecimal n (decimal n)
decimal-is = decimal_by_steps IsDecimal one-digit more-digits

-- ---- Constants

below-ten : (d : ℕ) → is_digit d ≡ true → is_digit_of 10 d ≡ true
below-ten d is =
    let high : d < 58 = grind (arith, nat_tests) in
    let low : 48 ≤ d = grind (arith, nat_tests) in
    let worth : digit_worth d ≡ d - 48 = ap (λ (z : Bool). if z then d - 48 else (if is_between 97 102 d then d - 87 else (if is_between 65 70 d then d - 55 else 16))) is in
    ap (λ (m : ℕ). nat_lt m 10) worth ∙ lt-ltb (d - 48) 10 (omega (arith, high, low))

prefix-digits : (ds : List ℕ) → AreDigits ds → prefix_len (is_digit_of 10) ds ≡ length ds
prefix-digits [] h = refl
prefix-digits (d ∷ ds) h = ap (λ (z : Bool). cond z (1 + prefix_len (is_digit_of 10) ds) 0) (below-ten d h.0) ∙ ap (λ (n : ℕ). 1 + n) (prefix-digits ds h.1) ∙ omega arith

take-whole : (xs : List ℕ) → take (length xs) xs ≡ xs
take-whole [] = refl
take-whole (x ∷ xs) = ap (λ (l : List ℕ). x ∷ l) (take-whole xs)

drop-whole : (xs : List ℕ) → drop (length xs) xs ≡ []
drop-whole [] = refl
drop-whole (x ∷ xs) = drop-whole xs

abbrev ending-at : ℕ → List ℕ → Option (ℕ × NumberForm)
ending-at end text =
    if end == 0 then None else option_and_then (λ value. option_and_then (formed true value) (suffix_of (drop end text))) (value_from 10 0 (take (end - 0) text))

abbrev in-base : ℕ → List ℕ → Option (ℕ × NumberForm)
in-base base text =
    let start : ℕ = if base == 16 then 2 else 0 in
    let end : ℕ = start + prefix_len (is_digit_of base) (drop start text) in
    if end == start then None else
    option_and_then (λ value. option_and_then (formed (base == 10) value) (suffix_of (drop end text))) (value_from base 0 (take (end - start) (drop start text)))

constant-read : (n : ℕ) (ds : List ℕ) → IsConstant n → IsDecimal n ds → 0 < n → constant_of ds ≡ Some (n, record { decimal = true; unsigned_suffix = false; longs = 0 })
constant-read n [] small h some = absurd (h.first some)
constant-read n (d ∷ ds) small h some =
    let text : List ℕ = d ∷ ds in
    let end : 0 + prefix_len (is_digit_of 10) text ≡ length text = ap (λ (m : ℕ). 0 + m) (prefix-digits text h.digits) ∙ omega arith in
    let whole : length text - 0 ≡ length text = omega arith in
    ap (λ (z : Bool). in-base (if z then (if (slice_index text 1 == 120) || (slice_index text 1 == 88) then 16 else 8) else 10) text) (h.first some)
    ∙ ap (λ (m : ℕ). ending-at m text) end
    ∙ ap (λ (z : Bool). if z then None else option_and_then (λ value. option_and_then (formed true value) (suffix_of (drop (length text) text))) (value_from 10 0 (take (length text - 0) text)))
    (ne_eqb (length text) 0 (λ e. omega (arith, e)))
    ∙ ap (λ (m : ℕ). option_and_then (λ value. option_and_then (formed true value) (suffix_of (drop (length text) text))) (value_from 10 0 (take m text))) whole
    ∙ ap (λ (l : List ℕ). option_and_then (λ value. option_and_then (formed true value) (suffix_of (drop (length text) text))) (value_from 10 0 l)) (take-whole text)
    ∙ ap (λ (l : List ℕ). option_and_then (λ value. option_and_then (formed true value) (suffix_of l)) (value_from 10 0 text)) (drop-whole text)
    ∙ ap (λ (o : Option ℕ). option_and_then (λ value. option_and_then (formed true value) (suffix_of [])) o) (h.value (omega (arith, small)))
    ∙ ap (λ (z : Bool). if z then None else Some (n, record { decimal = true; unsigned_suffix = false; longs = 0 })) (lt-leb (2 ^ 63) n small)

number-of : (d : ℕ) (ds : List ℕ) (n : ℕ) (form : NumberForm) → AreDigits (d ∷ ds) → constant_of (d ∷ ds) ≡ Some (n, form) → Lexes Stops (d ∷ ds) (sy.Number n form ∷ [])
number-of d ds n form h c = one Stops d ds (Number n form) (λ rest s fresh at before go. number-read d ds rest n form h s c fresh at before go)

number-by : (n : ℕ) (ds : List ℕ) → IsConstant (suc n) → IsDecimal (suc n) ds → Lexes Stops ds (sy.Number (suc n) (plain_form (suc n)) ∷ [])
number-by n [] small h = absurd (h.first (omega arith))
number-by n (d ∷ ds) small h = number-of d ds (suc n) (plain_form (suc n)) h.digits (constant-read (suc n) (d ∷ ds) small h (omega arith))

-- a number in decimal digits
pub numbers : (n : ℕ) → IsConstant n → Lexes Stops (decimal n) (sy.Number n (plain_form n) ∷ [])
numbers zero small = subst (λ (t : List ℕ). Lexes Stops t (sy.Number 0 (plain_form 0) ∷ [])) (sym (decimal_digit 0 (omega arith))) (number-of 48 [] 0 (plain_form 0) (refl, tt) refl)
numbers (suc n) small = number-by n (decimal (suc n)) small (decimal-is (suc n) (omega (arith, small)))

pub zero-read : Lexes Stops (48 ∷ []) (sy.Number 0 (plain_form 0) ∷ [])
zero-read = number-of 48 [] 0 (plain_form 0) (refl, tt) refl

pub one-read : Lexes Stops (49 ∷ []) (sy.Number 1 (plain_form 1) ∷ [])
one-read = number-of 49 [] 1 (plain_form 1) (refl, tt) refl
