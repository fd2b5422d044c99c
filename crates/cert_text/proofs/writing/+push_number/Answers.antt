use Rattle.std.proofs.Common.{List, ℕ, ◌≡◌, ◌≤◌, ◌<◌, ◌+◌, ◌/◌, ◌%◌, [], ◌∷◌, ◌++◌, ◌∙◌, ap, sym, subst, append_assoc, arith}
use Rattle.std.specs.Prelude.{MatchResult}
use Rattle.stored_text.specs.declared.StoredFail.TheVariants.{Memory}
use Rattle.stored_text.specs.RunText.{number_text}
use Rattle.cert_text.proofs.Digits.{last_digit, only_digit}
use Rattle.cert_text.proofs.writing.+push_number.Goals as goal

pub returns : goal.returns
returns t c =
    let n : ℕ = c.args.number in
    let file : List ℕ = c.args.file.now.items in
    let large : 10 ≤ c.args.number = omega (arith, c.if-number-lt10.false) in
    let whole : c.push_number.new.file.items ++ (48 + n % 10) ∷ [] ≡ file ++ number_text n =
    ap (λ (l : List ℕ). l ++ (48 + n % 10) ∷ []) c.in_ok-push_number.ensures
    ∙ append_assoc file (number_text (n / 10)) ((48 + n % 10) ∷ [])
    ∙ ap (λ (l : List ℕ). file ++ l) (sym (last_digit n large)) in
    subst (λ (l : List ℕ). MatchResult c.push_byte-2.result (λ x. c.push_byte-2.new.file.items ≡ l) (λ e. e ≡ Memory)) whole c.push_byte-2.ensures

pub returns-then-number-lt10 : goal.returns-then-number-lt10
returns-then-number-lt10 t c =
    let small : c.args.number < 10 = c.if-number-lt10.true in
    let whole = ap (λ (l : List ℕ). c.args.file.now.items ++ l) (sym (only_digit c.args.number small)) in
    subst (λ (l : List ℕ). MatchResult c.push_byte.result (λ x. c.push_byte.new.file.items ≡ l) (λ e. e ≡ Memory)) whole c.push_byte.ensures
