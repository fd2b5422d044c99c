-- Integer constants and character constants are read by their definition.
use Rattle.std.proofs.Common.{◌≡◌, ◌≢◌, ℕ, ◌+◌, ◌-◌, ◌*◌, ◌^◌, ◌<◌, ◌≤◌, List, [], ◌∷◌, ◌++◌, length, take, drop, refl, sym, ◌∙◌, ap, subst, arith, Bool, true, false, inl, inr, ℤ}
use Rattle.std.specs.Prelude.{◌==◌, ◌||◌, ◌&&◌, not, slice_index, if◌then◌else◌, nat_lt, nat_le, Option, Some, None, pos}
use Rattle.std.specs.List.{prefix_len}
use Rattle.std.specs.Option.{option_and_then}
use Rattle.std.proofs.Math.Nat.{mul-le-mul_left}
use Rattle.std.proofs.lemmas.Bool.{or_cases, eqb-true, ltb-true, leb-false, lt-ltb, lt-leb, ne_eqb, both_ways}
use Rattle.std.proofs.lemmas.List.{take_at, drop_at, drop-drop, take-append-drop}
use Rattle.std.proofs.lemmas.List.Folds.{length-prefix_len}
use Rattle.std.proofs.lemmas.Bool.Decides.{nat_tests}
use Rattle.c_lexer.specs.Constants.{digit_worth, is_digit_of, value_from, suffix_of, base_of, formed, constant_of, letter_of}
use Rattle.c_lexer.specs.declared.token.NumberForm.{NumberForm}
use Rattle.c_tokens.specs.Constants.{Radix, base, is_decimal, IsFirst, IsPrefix, IsSuffix, IsConstant, IsCharacter, number_of}
use Rattle.c_tokens.specs.Constants.Radix.{Decimal, Octal, Hexadecimal}
use Rattle.c_tokens.specs.Spans.{Each}
use Rattle.c_tokens.proofs.SpanLemmas.{prefix_each, prefix_stops, prefix_whole}
use Rattle.c_tokens.proofs.Suffixes.{suffix_is, suffix_stop, suffix_found}

pub chosen : {A B : Type 0} (f : A → Option B) (o : Option A) (p : B) → option_and_then f o ≡ Some p → (a : A) × (o ≡ Some a) × (f a ≡ Some p)
chosen f None p is = absurd (cc is)
chosen f (Some a) p is = (a, refl, is)

value_is : (radix value : ℕ) (digits : List ℕ) (n : ℕ) → value < 2 ^ 64 → value_from radix value digits ≡ Some n → (n ≡ number_of radix value digits) × (n < 2 ^ 64)
value_is radix value [] n small e = let is : value ≡ n = cc e in (sym is, subst (λ (k : ℕ). k < 2 ^ 64) is small)
value_is radix value (d ∷ digits) n small e = by_test (nat_lt (value * radix + digit_worth d) (2 ^ 64)) refl e (λ lt h. value_is radix (value * radix + digit_worth d) digits n lt h)
  where
    by_test : (t : Bool) → nat_lt (value * radix + digit_worth d) (2 ^ 64) ≡ t → (if t then value_from radix (value * radix + digit_worth d) digits else None) ≡ Some n
        → (value * radix + digit_worth d < 2 ^ 64 → value_from radix (value * radix + digit_worth d) digits ≡ Some n → (n ≡ number_of radix (value * radix + digit_worth d) digits) × (n < 2 ^ 64))
        → (n ≡ number_of radix (value * radix + digit_worth d) digits) × (n < 2 ^ 64)
    by_test true lt h go = go (ltb-true (value * radix + digit_worth d) (2 ^ 64) lt) h
    by_test false lt h go = absurd (cc h)

grows : (radix value : ℕ) (digits : List ℕ) → 1 ≤ radix → value ≤ number_of radix value digits
grows radix value [] some = omega arith
grows radix value (d ∷ digits) some =
    let times : value * 1 ≤ value * radix = mul-le-mul_left value some in
    let later = grows radix (value * radix + digit_worth d) digits some in
    omega arith

value_found : (radix value : ℕ) (digits : List ℕ) → 1 ≤ radix → number_of radix value digits < 2 ^ 64 → value_from radix value digits ≡ Some (number_of radix value digits)
value_found radix value [] some small = refl
value_found radix value (d ∷ digits) some small =
    let below : value * radix + digit_worth d < 2 ^ 64 = omega (arith, grows radix (value * radix + digit_worth d) digits some) in
    ap (λ (t : Bool). if t then value_from radix (value * radix + digit_worth d) digits else None) (lt-ltb (value * radix + digit_worth d) (2 ^ 64) below)
    ∙ value_found radix (value * radix + digit_worth d) digits some small

-- a constant whose digits are of this base and stand behind so many bytes
abbrev ended_at : ℕ → ℕ → List ℕ → ℕ
ended_at radix start text = start + prefix_len (is_digit_of radix) (drop start text)

abbrev constant_at : ℕ → ℕ → List ℕ → Option (ℕ × NumberForm)
constant_at radix start text =
    if ended_at radix start text == start then None else
    option_and_then (λ value. option_and_then (formed (radix == 10) value) (suffix_of (drop (ended_at radix start text) text))) (value_from radix 0 (take (ended_at radix start text - start) (drop start text)))

record Parts (radix : ℕ) (bytes : List ℕ) (value : ℕ) (form : NumberForm) : Type 0 where
  digits : List ℕ
  suffix : List ℕ
  written : bytes ≡ digits ++ suffix
  some : 0 < length digits
  each : Each (is_digit_of radix) digits
  suffixed : IsSuffix form.unsigned_suffix form.longs suffix
  spells : value ≡ number_of radix 0 digits
  fits : value < 2 ^ 64
  decimal : form.decimal ≡ (radix == 10)
  signed : form.decimal ≡ true → form.unsigned_suffix ≡ false → value < 2 ^ 63

abbrev form_of : Bool → Bool → ℕ → NumberForm
form_of decimal u longs = record { decimal = decimal; unsigned_suffix = u; longs = longs }

formed_is : (decimal : Bool) (value : ℕ) (suffix : Bool × ℕ) (found : ℕ × NumberForm) → formed decimal value suffix ≡ Some found → (found ≡ (value, form_of decimal suffix.0 suffix.1)) × (decimal ≡ true → suffix.0 ≡ false → value < 2 ^ 63)
formed_is decimal value suffix found e = by_test decimal suffix.0 (nat_le (2 ^ 63) value) refl refl refl e
  where
    by_test : (d u t : Bool) → decimal ≡ d → suffix.0 ≡ u → nat_le (2 ^ 63) value ≡ t → (if d && not u && t then None else Some (value, form_of decimal suffix.0 suffix.1)) ≡ Some found → (found ≡ (value, form_of decimal suffix.0 suffix.1)) × (decimal ≡ true → suffix.0 ≡ false → value < 2 ^ 63)
    by_test true false true d u t h = absurd (cc h)
    by_test true false false d u t h = let is : (value, form_of decimal suffix.0 suffix.1) ≡ found = cc h in (sym is, λ x y. leb-false (2 ^ 63) value t)
    by_test true true t d u s h = let is : (value, form_of decimal suffix.0 suffix.1) ≡ found = cc h in (sym is, λ x y. absurd (both_ways suffix.0 y u))
    by_test false u t d v s h = let is : (value, form_of decimal suffix.0 suffix.1) ≡ found = cc h in (sym is, λ x y. absurd (both_ways decimal d x))

formed_found : (decimal u : Bool) (longs value : ℕ) → (decimal ≡ true → u ≡ false → value < 2 ^ 63) → formed decimal value (u, longs) ≡ Some (value, form_of decimal u longs)
formed_found true false longs value small = ap (λ (t : Bool). if t then None else Some (value, form_of true false longs)) (lt-leb (2 ^ 63) value (small refl refl))
formed_found true true longs value small = refl
formed_found false true longs value small = refl
formed_found false false longs value small = refl

parts_of : (radix start : ℕ) (text : List ℕ) (value : ℕ) (form : NumberForm) → constant_at radix start text ≡ Some (value, form) → Parts radix (drop start text) value form
parts_of radix start text value form e = by_test (ended_at radix start text == start) refl e
  where
    bytes : List ℕ
    bytes = drop start text

    by_test : (t : Bool) → (ended_at radix start text == start) ≡ t
        → (if t then None else option_and_then (λ v. option_and_then (formed (radix == 10) v) (suffix_of (drop (ended_at radix start text) text))) (value_from radix 0 (take (ended_at radix start text - start) (drop start text)))) ≡ Some (value, form)
        → Parts radix (drop start text) value form
    by_test true t h = absurd (cc h)
    by_test false t h =
        let width : ℕ = prefix_len (is_digit_of radix) (drop start text) in
        let v = chosen (λ v. option_and_then (formed (radix == 10) v) (suffix_of (drop (ended_at radix start text) text))) (value_from radix 0 (take (ended_at radix start text - start) (drop start text))) (value, form) h in
        let s = chosen (formed (radix == 10) v.0) (suffix_of (drop (ended_at radix start text) text)) (value, form) v.2 in
        let f = formed_is (radix == 10) v.0 s.0 (value, form) s.2 in
        let value_same : value ≡ v.0 = ap (λ (x : ℕ × NumberForm). x.0) f.0 in
        let form_same : form ≡ form_of (radix == 10) s.0.0 s.0.1 = ap (λ (x : ℕ × NumberForm). x.1) f.0 in
        let cut : ended_at radix start text - start ≡ width = omega arith in
        let spelled : value_from radix 0 (take width (drop start text)) ≡ Some v.0 = ap (λ (k : ℕ). value_from radix 0 (take k (drop start text))) (sym cut) ∙ v.1 in
        let number = value_is radix 0 (take width (drop start text)) v.0 (lt-small) spelled in
        let rest : drop (ended_at radix start text) text ≡ drop width (drop start text) = sym (drop-drop width start text) in
        let suffixed : IsSuffix s.0.0 s.0.1 (drop width (drop start text)) = suffix_is (drop width (drop start text)) s.0 (ap suffix_of (sym rest) ∙ s.1) in
        let differ : ended_at radix start text ≢ start = λ same. both_ways (ended_at radix start text == start) t (ap (λ (n : ℕ). n == start) same ∙ same_true start) in
        record {
          digits = take width (drop start text);
          suffix = drop width (drop start text);
          written = sym (take-append-drop width (drop start text));
          some = omega (arith, length-prefix_len (is_digit_of radix) (drop start text), differ);
          each = prefix_each (is_digit_of radix) (drop start text);
          suffixed = subst (λ (g : NumberForm). IsSuffix g.unsigned_suffix g.longs (drop width (drop start text))) (sym form_same) suffixed;
          spells = value_same ∙ number.0;
          fits = subst (λ (n : ℕ). n < 2 ^ 64) (sym value_same) number.1;
          decimal = ap (λ (g : NumberForm). g.decimal) form_same;
          signed = λ d u. subst (λ (n : ℕ). n < 2 ^ 63) (sym value_same) (f.1 (sym (ap (λ (g : NumberForm). g.decimal) form_same) ∙ d) (sym (ap (λ (g : NumberForm). g.unsigned_suffix) form_same) ∙ u));
        }
      where
        lt-small : 0 < 2 ^ 64
        lt-small = omega arith

        same_true : (n : ℕ) → (n == n) ≡ true
        same_true n = grind (arith, nat_tests)

constant_when : (radix : ℕ) (text : List ℕ) → base_of text ≡ radix → constant_of text ≡ constant_at radix (if radix == 16 then 2 else 0) text
constant_when radix text e = ap (λ (r : ℕ). constant_at r (if r == 16 then 2 else 0) text) e

no_hex : (b : ℕ) → is_digit_of 8 b ≡ true → ((b == 120) || (b == 88)) ≡ false
no_hex b e = let small : digit_worth b < 8 = ltb-true (digit_worth b) 8 e in by_tests (b == 120) (b == 88) refl refl small
  where
    by_tests : (x y : Bool) → (b == 120) ≡ x → (b == 88) ≡ y → digit_worth b < 8 → (x || y) ≡ false
    by_tests true y hx hy small = let big : digit_worth b ≡ 16 = ap digit_worth (eqb-true b 120 hx) in absurd (omega arith)
    by_tests false true hx hy small = let big : digit_worth b ≡ 16 = ap digit_worth (eqb-true b 88 hy) in absurd (omega arith)
    by_tests false false hx hy small = refl

-- the base of a text by its first two bytes
base_is : (a : ℕ) (bytes : List ℕ) (zero_first hex : Bool) → (a == 48) ≡ zero_first → ((slice_index bytes 0 == 120) || (slice_index bytes 0 == 88)) ≡ hex → base_of (a ∷ bytes) ≡ (if zero_first then (if hex then 16 else 8) else 10)
base_is a bytes zero_first hex f h =
    ap (λ (t : Bool). if t then (if (slice_index bytes 0 == 120) || (slice_index bytes 0 == 88) then 16 else 8) else 10) f
    ∙ ap (λ (t : Bool). if zero_first then (if t then 16 else 8) else 10) h

first_nonzero : (digits suffix bytes : List ℕ) (a : ℕ) → a ∷ bytes ≡ digits ++ suffix → 0 < length digits → (a ≡ 48 → ⊥) → IsFirst Decimal digits
first_nonzero [] suffix bytes a e some other = absurd (omega arith)
first_nonzero (d ∷ digits) suffix bytes a e some other = λ h. other (let same : a ≡ d = cc e in same ∙ h)

first_zero : (digits suffix bytes : List ℕ) (a : ℕ) → a ∷ bytes ≡ digits ++ suffix → 0 < length digits → a ≡ 48 → IsFirst Octal digits
first_zero [] suffix bytes a e some is = absurd (omega arith)
first_zero (d ∷ digits) suffix bytes a e some is = let same : a ≡ d = cc e in sym same ∙ is

first_any : (digits : List ℕ) → 0 < length digits → IsFirst Hexadecimal digits
first_any [] some = absurd (omega arith)
first_any (d ∷ digits) some = tt

pub constant_is : (text : List ℕ) (value : ℕ) (form : NumberForm) → constant_of text ≡ Some (value, form) → IsConstant value form text
constant_is [] value form e = absurd (cc e)
constant_is (a ∷ bytes) value form e = by_tests (a == 48) ((slice_index bytes 0 == 120) || (slice_index bytes 0 == 88)) refl refl
  where
    of_decimal : (a == 48) ≡ false → Parts 10 (a ∷ bytes) value form → IsConstant value form (a ∷ bytes)
    of_decimal f p = record {
      radix = Decimal;
      prefix = [];
      digits = p.digits;
      suffix = p.suffix;
      written = p.written;
      prefixed = refl;
      first = first_nonzero p.digits p.suffix bytes a p.written p.some (λ h. both_ways (a == 48) f (ap (λ (n : ℕ). n == 48) h));
      each = p.each;
      suffixed = p.suffixed;
      spells = p.spells;
      fits = p.fits;
      decimal = p.decimal;
      signed = p.signed;
    }

    of_octal : (a == 48) ≡ true → Parts 8 (a ∷ bytes) value form → IsConstant value form (a ∷ bytes)
    of_octal f p = record {
      radix = Octal;
      prefix = [];
      digits = p.digits;
      suffix = p.suffix;
      written = p.written;
      prefixed = refl;
      first = first_zero p.digits p.suffix bytes a p.written p.some (eqb-true a 48 f);
      each = p.each;
      suffixed = p.suffixed;
      spells = p.spells;
      fits = p.fits;
      decimal = p.decimal;
      signed = p.signed;
    }

    of_hexadecimal : (bs : List ℕ) → a ≡ 48 → ((slice_index bs 0 == 120) || (slice_index bs 0 == 88)) ≡ true → Parts 16 (drop 2 (a ∷ bs)) value form → IsConstant value form (a ∷ bs)
    of_hexadecimal [] f h p = absurd (cc h)
    of_hexadecimal (b ∷ bs) f h p = record {
      radix = Hexadecimal;
      prefix = a ∷ b ∷ [];
      digits = p.digits;
      suffix = p.suffix;
      written = ap (λ (l : List ℕ). a ∷ b ∷ l) p.written;
      prefixed = elim (or_cases (b == 120) (b == 88) h) [ inl x ↦ inl (two 120 f (eqb-true b 120 x)) | inr x ↦ inr (two 88 f (eqb-true b 88 x)) ];
      first = first_any p.digits p.some;
      each = p.each;
      suffixed = p.suffixed;
      spells = p.spells;
      fits = p.fits;
      decimal = p.decimal;
      signed = p.signed;
    }
      where
        two : (c : ℕ) → a ≡ 48 → b ≡ c → a ∷ b ∷ [] ≡ 48 ∷ c ∷ []
        two c p q = cc

    by_tests : (z h : Bool) → (a == 48) ≡ z → ((slice_index bytes 0 == 120) || (slice_index bytes 0 == 88)) ≡ h → IsConstant value form (a ∷ bytes)
    by_tests false h f g = of_decimal f (parts_of 10 0 (a ∷ bytes) value form (sym (constant_when 10 (a ∷ bytes) (base_is a bytes false h f g)) ∙ e))
    by_tests true false f g = of_octal f (parts_of 8 0 (a ∷ bytes) value form (sym (constant_when 8 (a ∷ bytes) (base_is a bytes true false f g)) ∙ e))
    by_tests true true f g = of_hexadecimal bytes (eqb-true a 48 f) g (parts_of 16 2 (a ∷ bytes) value form (sym (constant_when 16 (a ∷ bytes) (base_is a bytes true true f g)) ∙ e))

-- digits go as far as their suffix
width_is : (radix : ℕ) (digits suffix : List ℕ) (p : Bool × ℕ) → radix ≤ 16 → Each (is_digit_of radix) digits → suffix_of suffix ≡ Some p → prefix_len (is_digit_of radix) (digits ++ suffix) ≡ length digits
width_is radix digits [] p small each s = ap (λ (l : List ℕ). prefix_len (is_digit_of radix) l) (nil digits) ∙ prefix_whole (is_digit_of radix) digits each
  where
    nil : (xs : List ℕ) → xs ++ [] ≡ xs
    nil [] = refl
    nil (x ∷ xs) = ap (λ (l : List ℕ). x ∷ l) (nil xs)
width_is radix digits (a ∷ suffix) p small each s =
    let worth : digit_worth a ≡ 16 = (suffix_stop a suffix p s).0 in
    let stop : is_digit_of radix a ≡ false = grind (arith, nat_tests) in
    prefix_stops (is_digit_of radix) digits (a ∷ suffix) each (λ e. cc e) stop

found_at : (radix start : ℕ) (text digits suffix : List ℕ) (u : Bool) (longs value : ℕ) → radix ≤ 16 → 1 ≤ radix → drop start text ≡ digits ++ suffix → 0 < length digits → Each (is_digit_of radix) digits → suffix_of suffix ≡ Some (u, longs)
    → value ≡ number_of radix 0 digits → value < 2 ^ 64 → ((radix == 10) ≡ true → u ≡ false → value < 2 ^ 63) → constant_at radix start text ≡ Some (value, form_of (radix == 10) u longs)
found_at radix start text digits suffix u longs value small one there some each suffixed spells fits signed =
    let width : ℕ = prefix_len (is_digit_of radix) (drop start text) in
    let wide : width ≡ length digits = ap (λ (l : List ℕ). prefix_len (is_digit_of radix) l) there ∙ width_is radix digits suffix (u, longs) small each suffixed in
    let differ : (ended_at radix start text == start) ≡ false = ne_eqb (ended_at radix start text) start (λ same. absurd (omega (arith, wide, some, same))) in
    let cut : ended_at radix start text - start ≡ length digits = omega (arith, wide) in
    let taken : take (ended_at radix start text - start) (drop start text) ≡ digits =
    ap (λ (k : ℕ). take k (drop start text)) cut ∙ ap (λ (l : List ℕ). take (length digits) l) there ∙ take_at digits suffix (length digits) refl in
    let rest : drop (ended_at radix start text) text ≡ suffix =
    sym (drop-drop width start text) ∙ ap (λ (k : ℕ). drop k (drop start text)) wide ∙ ap (λ (l : List ℕ). drop (length digits) l) there ∙ drop_at digits suffix (length digits) refl in
    let number : value_from radix 0 (take (ended_at radix start text - start) (drop start text)) ≡ Some value =
    ap (λ (l : List ℕ). value_from radix 0 l) taken ∙ value_found radix 0 digits one (subst (λ (n : ℕ). n < 2 ^ 64) spells fits) ∙ ap (λ (n : ℕ). Some n) (sym spells) in
    ap (λ (t : Bool). if t then None else option_and_then (λ v. option_and_then (formed (radix == 10) v) (suffix_of (drop (ended_at radix start text) text))) (value_from radix 0 (take (ended_at radix start text - start) (drop start text)))) differ
    ∙ ap (λ (o : Option ℕ). option_and_then (λ v. option_and_then (formed (radix == 10) v) (suffix_of (drop (ended_at radix start text) text))) o) number
    ∙ ap (λ (o : Option (Bool × ℕ)). option_and_then (formed (radix == 10) value) o) (ap suffix_of rest ∙ suffixed)
    ∙ formed_found (radix == 10) u longs value signed

abbrev some_pair : ℕ → NumberForm → Option (ℕ × NumberForm)
some_pair value form = Some (value, form)

pub constant_found : (text : List ℕ) (value : ℕ) (form : NumberForm) → IsConstant value form text → constant_of text ≡ Some (value, form)
constant_found text value form c = by_radix c.radix c.prefix c.digits c.written c.prefixed c.first c.each c.spells c.decimal
  where
    suffixed : suffix_of c.suffix ≡ Some (form.unsigned_suffix, form.longs)
    suffixed = suffix_found form.unsigned_suffix form.longs c.suffix c.suffixed

    formed_so : (d : Bool) → form.decimal ≡ d → some_pair value (form_of d form.unsigned_suffix form.longs) ≡ some_pair value form
    formed_so d e = ap (λ (x : Bool). some_pair value (form_of x form.unsigned_suffix form.longs)) (sym e)

    at_zero : (radix : ℕ) (digits : List ℕ) → radix ≤ 16 → 1 ≤ radix → (radix == 16) ≡ false → base_of text ≡ radix → text ≡ digits ++ c.suffix → 0 < length digits → Each (is_digit_of radix) digits → value ≡ number_of radix 0 digits → form.decimal ≡ (radix == 10) → constant_of text ≡ Some (value, form)
    at_zero radix digits small one low is written some each spells decimal =
        constant_when radix text is ∙ ap (λ (t : Bool). constant_at radix (if t then 2 else 0) text) low
        ∙ found_at radix 0 text digits c.suffix form.unsigned_suffix form.longs value small one written some each suffixed spells c.fits (λ d u. c.signed (decimal ∙ d) u)
        ∙ formed_so (radix == 10) decimal

    second : (digits : List ℕ) → Each (is_digit_of 8) digits → ((slice_index (digits ++ c.suffix) 0 == 120) || (slice_index (digits ++ c.suffix) 0 == 88)) ≡ false
    second (d ∷ digits) each = no_hex d each.0
    second [] each = by_suffix c.suffix suffixed
      where
        by_suffix : (s : List ℕ) → suffix_of s ≡ Some (form.unsigned_suffix, form.longs) → ((slice_index s 0 == 120) || (slice_index s 0 == 88)) ≡ false
        by_suffix [] e = refl
        by_suffix (a ∷ s) e = (suffix_stop a s (form.unsigned_suffix, form.longs) e).1

    base_at : (bytes : List ℕ) (r : ℕ) → text ≡ bytes → base_of bytes ≡ r → base_of text ≡ r
    base_at bytes r e is = ap base_of e ∙ is

    by_radix : (radix : Radix) (prefix digits : List ℕ) → text ≡ prefix ++ (digits ++ c.suffix) → IsPrefix radix prefix → IsFirst radix digits → Each (is_digit_of (base radix)) digits → value ≡ number_of (base radix) 0 digits → form.decimal ≡ is_decimal radix → constant_of text ≡ Some (value, form)
    by_radix radix prefix [] written prefixed first each spells decimal = absurd first
    by_radix Decimal prefix (d ∷ digits) written prefixed first each spells decimal =
        let whole : text ≡ (d ∷ digits) ++ c.suffix = written ∙ ap (λ (l : List ℕ). l ++ ((d ∷ digits) ++ c.suffix)) prefixed in
        at_zero 10 (d ∷ digits) (omega arith) (omega arith) refl (base_at ((d ∷ digits) ++ c.suffix) 10 whole (base_is d (digits ++ c.suffix) false _ (ne_eqb d 48 first) refl)) whole (omega arith) each spells decimal
    by_radix Octal prefix (d ∷ digits) written prefixed first each spells decimal =
        let whole : text ≡ (d ∷ digits) ++ c.suffix = written ∙ ap (λ (l : List ℕ). l ++ ((d ∷ digits) ++ c.suffix)) prefixed in
        at_zero 8 (d ∷ digits) (omega arith) (omega arith) refl (base_at ((d ∷ digits) ++ c.suffix) 8 whole (base_is d (digits ++ c.suffix) true false (ap (λ (n : ℕ). n == 48) first) (second digits each.1))) whole (omega arith) each spells decimal
    by_radix Hexadecimal prefix (d ∷ digits) written prefixed first each spells decimal =
        elim prefixed [ inl e ↦ hexadecimal 120 refl e | inr e ↦ hexadecimal 88 refl e ]
      where
        hexadecimal : (x : ℕ) → ((x == 120) || (x == 88)) ≡ true → prefix ≡ 48 ∷ x ∷ [] → constant_of text ≡ Some (value, form)
        hexadecimal x h e =
            let whole : text ≡ 48 ∷ x ∷ ((d ∷ digits) ++ c.suffix) = written ∙ ap (λ (l : List ℕ). l ++ ((d ∷ digits) ++ c.suffix)) e in
            constant_when 16 text (base_at (48 ∷ x ∷ ((d ∷ digits) ++ c.suffix)) 16 whole (base_is 48 (x ∷ ((d ∷ digits) ++ c.suffix)) true true refl h))
            ∙ found_at 16 2 text (d ∷ digits) c.suffix form.unsigned_suffix form.longs value (omega arith) (omega arith) (ap (λ (l : List ℕ). drop 2 l) whole) (omega arith) each suffixed spells c.fits (λ t u. absurd (cc t))
            ∙ formed_so false decimal

-- character constants
pub letter_found : (text : List ℕ) (value : ℤ) → IsCharacter value text → letter_of text ≡ Some value
letter_found text value (inl p) = ap letter_of p.1 ∙ ap (λ (t : Bool). if t then Some (pos p.0) else None) p.2 ∙ ap (λ (v : ℤ). Some v) (sym p.3)
letter_found text value (inr p) = ap letter_of p.1 ∙ p.2
