-- Which bytes are of no two classes.
use Rattle.std.proofs.Common.{◌≡◌, ℕ, arith, Bool, true, false}
use Rattle.std.specs.Prelude.{◌==◌, ◌||◌}
use Rattle.std.proofs.lemmas.Bool.Decides.{nat_tests}
use Rattle.c_lexer.specs.Bytes.{is_blank, is_letter, is_digit, is_sign, is_exponent}

-- the tests of a step on the first byte
abbrev pub is_quote : ℕ → Bool
is_quote b = (b == 34) || (b == 39) || (b == 35)

pub letter_tests : (b : ℕ) → is_letter b ≡ true → (is_blank b ≡ false) × (is_digit b ≡ false) × ((b == 46) ≡ false) × (is_quote b ≡ false) × ((b == 47) ≡ false)
letter_tests b is = (grind (arith, nat_tests), grind (arith, nat_tests), grind (arith, nat_tests), grind (arith, nat_tests), grind (arith, nat_tests))

pub digit_tests : (b : ℕ) → is_digit b ≡ true → (is_blank b ≡ false) × (is_letter b ≡ false) × ((b == 46) ≡ false) × (is_quote b ≡ false) × ((b == 47) ≡ false)
digit_tests b is = (grind (arith, nat_tests), grind (arith, nat_tests), grind (arith, nat_tests), grind (arith, nat_tests), grind (arith, nat_tests))

pub digit_no_exponent : (b : ℕ) → is_digit b ≡ true → is_exponent b ≡ true → ⊥
digit_no_exponent b digit exponent = grind (arith, nat_tests)

pub sign_no_exponent : (b : ℕ) → is_sign b ≡ true → is_exponent b ≡ true → ⊥
sign_no_exponent b sign exponent = grind (arith, nat_tests)
