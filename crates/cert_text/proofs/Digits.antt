-- Decimal digits.
use Rattle.std.proofs.Common.{◌≡◌, ℕ, ◌+◌, ◌*◌, ◌/◌, ◌%◌, ◌<◌, ◌≤◌, [], ◌∷◌, ◌++◌, ap, sym, ◌∙◌, arith}
use Rattle.stored_text.specs.RunText.{number_text}
use Rattle.stored_text.proofs.Lines.{digit_text, longer_text}

-- the digits of a number are those of its tenth, and the last
pub last_digit : (n : ℕ) → 10 ≤ n → number_text n ≡ number_text (n / 10) ++ (48 + n % 10) ∷ []
last_digit n least =
    let parts : (n / 10) * 10 + n % 10 ≡ n = omega arith in
    sym (ap number_text parts) ∙ longer_text (n / 10) (n % 10) (omega arith) (omega arith)

pub only_digit : (n : ℕ) → n < 10 → number_text n ≡ (48 + n % 10) ∷ []
only_digit n small =
    let same : n % 10 ≡ n = omega arith in
    digit_text n small ∙ ap (λ (d : ℕ). (48 + d) ∷ []) (sym same)
