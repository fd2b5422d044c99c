-- The tokens of a source by one pass over its bytes.
use Rattle.std.specs.Prelude.{ℕ, zero, suc, ◌+◌, ◌-◌, List, [], ◌∷◌, ◌++◌, length, Bool, true, false, nat_lt, if◌then◌else◌, Result, Ok, Err}
use Rattle.lv_base.specs.declared.fail.SourceFail.{SourceFail}
use Rattle.lv_base.specs.declared.fail.SourceFail.TheVariants.{Fault as AFault, Over}
use Rattle.c_lexer.specs.Steps.{step_of}
use Rattle.c_lexer.specs.declared.step.Step.{Step}
use Rattle.c_lexer.specs.declared.step.Step.TheVariants.{Skip, Token, Fault}
use Rattle.c_lexer.specs.declared.token.Token.{Token as AToken}
use Rattle.c_lexer.specs.declared.token.TokenKind.{TokenKind}
use Rattle.c_lexer.specs.declared.token.TokenKind.TheVariants.{End}

abbrev pub token_of : TokenKind → ℕ → ℕ → AToken
token_of kind at end = record { kind = kind; at = at; end = end }

-- what comes of a step at this offset, after these tokens, where this goes on behind it
abbrev pub stepped : Step → ℕ → List AToken → (ℕ → Bool → List AToken → Result (List AToken) SourceFail) → Result (List AToken) SourceFail
stepped (Skip width fresh) at before go = go width fresh before
stepped (Token kind width) at before go = if nat_lt (length before) 200000 then go width false (before ++ token_of kind at (at + width) ∷ []) else Err (Over 2 200001)
stepped (Fault fault) at before go = Err (AFault fault at)

-- the tokens of these bytes, which stand at this offset behind these tokens; the first so many bytes were passed by the
-- last step
abbrev pub lexed_from : ℕ → Bool → ℕ → List AToken → List ℕ → Result (List AToken) SourceFail
lexed_from inside fresh at before [] = Ok (before ++ token_of End at at ∷ [])
lexed_from (suc inside) fresh at before (b ∷ rest) = lexed_from inside fresh (at + 1) before rest
lexed_from zero fresh at before (b ∷ rest) =
    stepped (step_of fresh (b ∷ rest)) at before (λ width next tokens. lexed_from (width - 1) next (at + 1) tokens rest)

-- the tokens of a source, or the first of its faults and limits
abbrev pub lexed : List ℕ → Result (List AToken) SourceFail
lexed source = if nat_lt 1048576 (length source) then Err (Over 1 (length source)) else lexed_from zero true zero [] source
