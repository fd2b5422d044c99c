-- The four faults of a source's bytes, by what stands where they are.
use Rattle.std.specs.Prelude.{ℕ, ◌≡◌, ◌≢◌, ◌⊎◌, List, [], ◌∷◌, take, codes, false}
use Rattle.lv_base.specs.declared.fault.SourceFault.{SourceFault}
use Rattle.lv_base.specs.declared.fault.SourceFault.TheVariants.{BadByte, Unclosed, Directive, BadNumber}
use Rattle.c_lexer.specs.Bytes.{is_blank}
use Rattle.c_lexer.specs.declared.token.TokenKind.{TokenKind}
use Rattle.c_tokens.specs.Forms.{PpNumber, IsQuoted, Lexeme, IsForm, IsComment, StartsLine, IsMarker}
use Rattle.c_tokens.specs.Spans.{Begins, Longest, Never}

-- a `#` that something stands before in its line, or a byte that begins nothing
pub data IsBadByte (before rest : List ℕ) : Type 0 where
  a_hash : Begins rest (codes "#") → (StartsLine before → ⊥) → IsBadByte before rest
  a_byte : (b : ℕ) → Begins rest (b ∷ []) → is_blank b ≡ false → b ≢ 34 → b ≢ 35 → b ≢ 39 → Never Lexeme rest → IsBadByte before rest

-- a comment that the source does not close, or a string or a character constant that its line does not close
pub data IsUnclosed (rest : List ℕ) : Type 0 where
  a_comment : Begins rest (codes "/*") → Never IsComment rest → IsUnclosed rest
  a_quote : (quote : ℕ) → (quote ≡ 34) ⊎ (quote ≡ 39) → Begins rest (quote ∷ []) → Never (IsQuoted quote) rest → IsUnclosed rest

-- a `#` that spaces and tabs alone stand before in its line, and that begins no marker line
abbrev pub IsDirective : List ℕ → List ℕ → Type 0
IsDirective before rest = Begins rest (codes "#") × StartsLine before × (IsMarker rest → ⊥)

-- a preprocessing number or a closed character constant of no token's form
abbrev pub IsBadNumber : List ℕ → Type 0
IsBadNumber rest =
    (n : ℕ) × Longest Lexeme rest n × (PpNumber (take n rest) ⊎ IsQuoted 39 (take n rest)) × ((kind : TokenKind) → IsForm kind (take n rest) → ⊥)

-- a fault stands at the front of the rest of a source, which these bytes stand before
abbrev pub IsFault : SourceFault → List ℕ → List ℕ → Type 0
IsFault BadByte before rest = IsBadByte before rest
IsFault Unclosed before rest = IsUnclosed rest
IsFault Directive before rest = IsDirective before rest
IsFault BadNumber before rest = IsBadNumber rest
IsFault _ before rest = ⊥
