-- What is proved of token lists and faults.
use Rattle.std.specs.Prelude.{ℕ, ◌≡◌, ◌≤◌, ◌-◌, ◌⊎◌, ◌↔◌, List, [], ◌∷◌, drop, Result}
use Rattle.lv_base.specs.declared.fail.SourceFail.{SourceFail}
use Rattle.lv_base.specs.declared.fault.SourceFault.{SourceFault}
use Rattle.c_lexer.specs.Lexed.{lexed}
use Rattle.c_lexer.specs.declared.token.Token.{Token}
use Rattle.c_tokens.specs.Divisions.{end_token, Tokens, LexFault, Fits}
use Rattle.c_tokens.specs.Forms.{IsToken}

-- a source has a token list or a fault
abbrev pub HasOne : Type 0
HasOne = (source : List ℕ) → ((list : List Token) × Tokens source list) ⊎ ((fault : SourceFault) × (at : ℕ) × (count : ℕ) × LexFault source fault at count)

-- and no other
abbrev pub HasNoOther : Type 0
HasNoOther = (source : List ℕ)
    → ((a b : List Token) → Tokens source a → Tokens source b → a ≡ b)
    × ((a b : SourceFault) (i j m n : ℕ) → LexFault source a i m → LexFault source b j n → (a ≡ b) × (i ≡ j) × (m ≡ n))
    × ((list : List Token) (fault : SourceFault) (at count : ℕ) → Tokens source list → LexFault source fault at count → ⊥)

-- the one pass over the bytes gives the one answer that fits
abbrev pub IsLexed : Type 0
IsLexed = (source : List ℕ) (answer : Result (List Token) SourceFail) → (lexed source ≡ answer) ↔ Fits source answer

-- spans rise from this offset on and do not overlap
abbrev pub Rise : ℕ → List Token → Type 0
Rise at [] = Unit {0}
Rise at (token ∷ tokens) = (at ≤ token.at) × (token.at ≤ token.end) × Rise token.end tokens

-- each span has its token's form, as the longest there, but the end's
abbrev pub AreFormed : List ℕ → List Token → Type 0
AreFormed source [] = Unit {0}
AreFormed source (token ∷ tokens) =
    ((token ≡ end_token source) ⊎ IsToken (drop token.at source) token.kind (token.end - token.at)) × AreFormed source tokens

-- the spans of a token list
abbrev pub HasSpans : Type 0
HasSpans = (source : List ℕ) (list : List Token) → Tokens source list → Rise 0 list × AreFormed source list
