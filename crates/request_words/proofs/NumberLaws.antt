-- A number is read from its decimal digits alone.
use Rattle.std.proofs.Common.{◌≡◌, ℕ, zero, suc, ◌+◌, ◌-◌, ◌*◌, ◌<◌, ◌≤◌, ◌^◌, List, [], ◌∷◌, length, get_or, refl, sym, ◌∙◌, ap, arith, Bool, true, false, rules}
use Rattle.std.specs.Prelude.{Option, Some, None, nat_le, ◌&&◌, ◌||◌, ◌==◌, if◌then◌else◌, slice_index}
use Rattle.std.specs.Fmt.{decimal}
use Rattle.std.specs.Str.{all_ascii_digits}
use Rattle.std.proofs.lemmas.Bool.Decides.{nat_tests}
use Rattle.std.proofs.lemmas.Fmt.{decimal-digits_value, decimal_digit, decimal_nonempty, first_decimal, digits_decimal, digits_value-decimal}
use Rattle.std.proofs.lemmas.Str.Parse.{IsNumeralModel, numerals_by_fold, tells_all_ascii_digits}
use Rattle.std.specs.Prelude.{codes}
use Rattle.std.specs.Str.{bytes_eq}
use Rattle.std.proofs.lemmas.Slice.Eq.{bytes_eq-Decides}
use Rattle.request_words.specs.Values.{digit_added, number_behind, number_of, NumbersAreRead, SeedsAreRead}

-- the number of digits behind a number
abbrev whole : ℕ → List ℕ → ℕ
whole n [] = n
whole n (b ∷ bytes) = whole (n * 10 + (b - 48)) bytes

own : IsNumeralModel (λ ds. all_ascii_digits ds ≡ true) (whole 0)
own = numerals_by_fold _ (search rules) whole (search rules)

whole_grows : (n : ℕ) (bytes : List ℕ) → n ≤ whole n bytes
whole_grows n [] = omega arith
whole_grows n (b ∷ bytes) = omega (arith, whole_grows (n * 10 + (b - 48)) bytes)

-- what a digit more gives
pub record IsAdded (most n b m : ℕ) : Type 0 where
  pub digit : (48 ≤ b) × (b ≤ 57)
  pub value : m ≡ n * 10 + (b - 48)
  pub small : m ≤ most

picked : (b : Bool) (x y : ℕ) → (if b then Some x else None) ≡ Some y → (b ≡ true) × (x ≡ y)
picked true x y h = (refl, cc)
picked false x y h = absurd (cc)

pub added : (most n b m : ℕ) → digit_added most n b ≡ Some m → IsAdded most n b m
added most n b m h =
    let p = picked (nat_le 48 b && nat_le b 57 && nat_le (n * 10 + (b - 48)) most) (n * 10 + (b - 48)) m h in
    let t : nat_le 48 b && nat_le b 57 && nat_le (n * 10 + (b - 48)) most ≡ true = p.0 in
    let low : 48 ≤ b = grind (arith, nat_tests) in
    let high : b ≤ 57 = grind (arith, nat_tests) in
    let few : n * 10 + (b - 48) ≤ most = grind (arith, nat_tests) in
    record { digit = (low, high); value = sym p.1; small = omega (arith, p.1) }

adds : (most n b : ℕ) → 48 ≤ b → b ≤ 57 → n * 10 + (b - 48) ≤ most → digit_added most n b ≡ Some (n * 10 + (b - 48))
adds most n b low high few =
    let t : nat_le 48 b && nat_le b 57 && nat_le (n * 10 + (b - 48)) most ≡ true = grind (arith, nat_tests) in
    ap (λ (q : Bool). if q then Some (n * 10 + (b - 48)) else None) t

digits_more : (b : ℕ) (bytes : List ℕ) → 48 ≤ b → b ≤ 57 → all_ascii_digits bytes ≡ true → all_ascii_digits (b ∷ bytes) ≡ true
digits_more b bytes low high digits = tells_all_ascii_digits.more b bytes (low, high) digits

digits_parts : (b : ℕ) (bytes : List ℕ) → all_ascii_digits (b ∷ bytes) ≡ true → (48 ≤ b) × (b ≤ 57) × (all_ascii_digits bytes ≡ true)
digits_parts b bytes digits =
    let parts = tells_all_ascii_digits.parts b bytes digits in
    (parts.0.0, parts.0.1, parts.1)

-- ---- what is read has these digits

record IsNumber (most k : ℕ) (bytes : List ℕ) (n : ℕ) : Type 0 where
  digits : all_ascii_digits bytes ≡ true
  value : whole k bytes ≡ n
  small : n ≤ most

none_behind : (most : ℕ) (bytes : List ℕ) (n : ℕ) → number_behind most None bytes ≡ Some n → ⊥
none_behind most [] n h = cc
none_behind most (b ∷ bytes) n h = cc

number_step : (most k b : ℕ) (bytes : List ℕ) (n : ℕ) → ((m : ℕ) → m ≤ most → number_behind most (Some m) bytes ≡ Some n → IsNumber most m bytes n) → (o : Option ℕ) → digit_added most k b ≡ o → number_behind most o bytes ≡ Some n → IsNumber most k (b ∷ bytes) n
number_step most k b bytes n more None e h = absurd (none_behind most bytes n h)
number_step most k b bytes n more (Some m) e h =
    let a = added most k b m e in
    let rest = more m a.small h in
    record { digits = digits_more b bytes a.digit.0 a.digit.1 rest.digits; value = ap (λ (x : ℕ). whole x bytes) (sym a.value) ∙ rest.value; small = rest.small }

same_some : (m n : ℕ) → Some m ≡ Some n → m ≡ n
same_some m n h = cc

number_read : (most k : ℕ) (bytes : List ℕ) (n : ℕ) → k ≤ most → number_behind most (Some k) bytes ≡ Some n → IsNumber most k bytes n
number_read most k [] n small h = let e = same_some k n h in record { digits = refl; value = e; small = omega (arith, e) }
number_read most k (b ∷ bytes) n small h = number_step most k b bytes n (λ m less e. number_read most m bytes n less e) (digit_added most k b) refl h

-- ---- and digits are read

number_reads : (most k : ℕ) (bytes : List ℕ) → all_ascii_digits bytes ≡ true → whole k bytes ≤ most → number_behind most (Some k) bytes ≡ Some (whole k bytes)
number_reads most k [] digits small = refl
number_reads most k (b ∷ bytes) digits small =
    let parts = digits_parts b bytes digits in
    ap (λ (o : Option ℕ). number_behind most o bytes) (adds most k b parts.0 parts.1 (omega (arith, whole_grows (k * 10 + (b - 48)) bytes))) ∙ number_reads most (k * 10 + (b - 48)) bytes parts.2 small

-- ---- numbers from 1 on

abbrev is_none : List ℕ → Bool
is_none bytes = (length bytes == 0) || (slice_index bytes 0 == 48)

record IsSome (bytes : List ℕ) : Type 0 where
  long : 0 < length bytes
  first : get_or bytes 0 0 ≡ 48 → ⊥

is_some : (bytes : List ℕ) → is_none bytes ≡ false → IsSome bytes
is_some bytes h =
    let long : 0 < length bytes = grind (arith, nat_tests) in
    record { long = long; first = λ e. absurd (grind (arith, nat_tests)) }

some_is : (bytes : List ℕ) → 0 < length bytes → 48 < get_or bytes 0 0 → is_none bytes ≡ false
some_is bytes long first = grind (arith, nat_tests)

positive : (n : ℕ) (bytes : List ℕ) → bytes ≡ decimal n → (get_or bytes 0 0 ≡ 48 → ⊥) → 1 ≤ n
positive zero bytes e first = absurd (first (ap (λ (l : List ℕ). get_or l 0 0) (e ∙ decimal_digit 0 (omega arith))))
positive (suc n) bytes e first = omega arith

number_found : (most : ℕ) (bytes : List ℕ) (n : ℕ) → most ≤ 4294967295 → (b : Bool) → is_none bytes ≡ b → (if b then None else number_behind most (Some 0) bytes) ≡ Some n → ((bytes ≡ decimal n) × (1 ≤ n) × (n ≤ most))
number_found most bytes n few true e h = absurd (cc)
number_found most bytes n few false e h =
    let some = is_some bytes e in
    let r = number_read most 0 bytes n (omega arith) h in
    let less : whole 0 bytes < 2 ^ 64 = omega (arith, r.value, r.small) in
    let written : bytes ≡ decimal n = sym (decimal-digits_value own bytes r.digits some.long (λ f. absurd (some.first f)) less) ∙ ap decimal r.value in
    (written, positive n bytes written some.first, r.small)

number_written : (most n : ℕ) → most ≤ 4294967295 → 1 ≤ n → n ≤ most → number_of most (decimal n) ≡ Some n
number_written most n few low high =
    let less : n < 2 ^ 64 = omega arith in
    let value : whole 0 (decimal n) ≡ n = digits_value-decimal own n less in
    let some : is_none (decimal n) ≡ false = some_is (decimal n) (decimal_nonempty n less) (first_decimal n low less) in
    ap (λ (b : Bool). if b then None else number_behind most (Some 0) (decimal n)) some
    ∙ number_reads most 0 (decimal n) (digits_decimal own n less) (omega (arith, value)) ∙ ap Some value

pub numbers_read : NumbersAreRead
numbers_read most bytes n few = (number_found most bytes n few (is_none bytes) refl, λ is. ap (number_of most) is.0 ∙ number_written most n few is.1 is.2)

-- ---- seeds

most_of : 4294967295 ≤ 4294967295
most_of = omega arith

seed_found : (bytes : List ℕ) (n : ℕ) (b : Bool) → bytes_eq bytes (codes "0") ≡ b → (if b then Some 0 else number_of 4294967295 bytes) ≡ Some n → ((bytes ≡ decimal n) × (n ≤ 4294967295))
seed_found bytes n true e h =
    let none : 0 ≡ n = same_some 0 n h in
    ((bytes_eq-Decides bytes (codes "0")).0 e ∙ sym (decimal_digit 0 (omega arith)) ∙ ap decimal none, omega (arith, none))
seed_found bytes n false e h = let is = (numbers_read 4294967295 bytes n most_of).0 h in (is.0, is.2)

seed_written : (bytes : List ℕ) (n : ℕ) (b : Bool) → bytes_eq bytes (codes "0") ≡ b → bytes ≡ decimal n → n ≤ 4294967295 → (if b then Some 0 else number_of 4294967295 bytes) ≡ Some n
seed_written bytes zero true e is few = refl
seed_written bytes zero false e is few = absurd (let zeros : bytes ≡ codes "0" = is ∙ decimal_digit 0 (omega arith) in let same = (bytes_eq-Decides bytes (codes "0")).1 zeros in cc)
seed_written bytes (suc n) true e is few =
    let zeros : bytes ≡ codes "0" = (bytes_eq-Decides bytes (codes "0")).0 e in
    let none : number_of 4294967295 bytes ≡ None = ap (number_of 4294967295) zeros in
    let some : number_of 4294967295 bytes ≡ Some (suc n) = (numbers_read 4294967295 bytes (suc n) most_of).1 (is, omega arith, few) in
    absurd (cc)
seed_written bytes (suc n) false e is few = (numbers_read 4294967295 bytes (suc n) most_of).1 (is, omega arith, few)

pub seeds_read : SeedsAreRead
seeds_read bytes n = (seed_found bytes n (bytes_eq bytes (codes "0")) refl, λ is. seed_written bytes n (bytes_eq bytes (codes "0")) refl is.0 is.1)
