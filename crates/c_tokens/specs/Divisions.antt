-- A source divides into tokens and gaps; its token list, or its fault.
use Rattle.std.specs.Prelude.{ℕ, ◌≡◌, ◌+◌, ◌<◌, ◌≤◌, ◌⊎◌, List, [], ◌∷◌, ◌++◌, length, take, drop, Result, Ok, Err}
use Rattle.lv_base.specs.declared.fail.SourceFail.{SourceFail}
use Rattle.lv_base.specs.declared.fail.SourceFail.TheVariants.{Fault as AFault, Over, Memory}
use Rattle.lv_base.specs.declared.fault.SourceFault.{SourceFault}
use Rattle.c_lexer.specs.declared.token.Token.{Token}
use Rattle.c_lexer.specs.declared.token.TokenKind.{TokenKind}
use Rattle.c_lexer.specs.declared.token.TokenKind.TheVariants.{End}
use Rattle.c_tokens.specs.Faults.{IsFault}
use Rattle.c_tokens.specs.Forms.{IsGap, IsToken}

-- a part of a source, with how many bytes it has
pub data Piece : Type 0 where
  Gap : ℕ → Piece
  Lexed : TokenKind → ℕ → Piece

abbrev pub width : Piece → ℕ
width (Gap n) = n
width (Lexed kind n) = n

-- a piece stands at this offset
abbrev pub Stands : List ℕ → ℕ → Piece → Type 0
Stands source at (Gap n) = IsGap (take at source) (drop at source) n
Stands source at (Lexed kind n) = IsToken (drop at source) kind n

-- the bytes from this offset up to that one divide into these pieces
abbrev pub Divided : List ℕ → ℕ → List Piece → ℕ → Type 0
Divided source at [] end = at ≡ end
Divided source at (piece ∷ pieces) end = Stands source at piece × Divided source (at + width piece) pieces end

-- the tokens of pieces, of which the first stands at this offset
abbrev pub tokens_in : ℕ → List Piece → List Token
tokens_in at [] = []
tokens_in at (Gap n ∷ pieces) = tokens_in (at + n) pieces
tokens_in at (Lexed kind n ∷ pieces) = record { kind = kind; at = at; end = at + n } ∷ tokens_in (at + n) pieces

abbrev pub end_token : List ℕ → Token
end_token source = record { kind = End; at = length source; end = length source }

-- the token list of a source: it divides into these tokens and gaps, and the last token is its end
pub record Tokens (source : List ℕ) (list : List Token) : Type 0 where
  pub pieces : List Piece
  pub divided : Divided source 0 pieces (length source)
  pub listed : list ≡ tokens_in 0 pieces ++ end_token source ∷ []

-- a fault of a source, with the number of tokens before it: the bytes before it divide into tokens and gaps
pub record LexFault (source : List ℕ) (fault : SourceFault) (at : ℕ) (count : ℕ) : Type 0 where
  pub pieces : List Piece
  pub divided : Divided source 0 pieces at
  pub inside : at < length source
  pub stands : IsFault fault (take at source) (drop at source)
  pub counted : length (tokens_in 0 pieces) ≡ count

-- a source has more than so many tokens: the bytes before one more divide into so many tokens and gaps
pub record MoreTokens (source : List ℕ) (count : ℕ) : Type 0 where
  pub pieces : List Piece
  pub at : ℕ
  pub kind : TokenKind
  pub n : ℕ
  pub divided : Divided source 0 pieces at
  pub token : IsToken (drop at source) kind n
  pub counted : length (tokens_in 0 pieces) ≡ count

-- an answer fits a source: its tokens, or the first of its faults and limits
abbrev pub Fits : List ℕ → Result (List Token) SourceFail → Type 0
Fits source (Ok list) = (length source ≤ 1048576) × Tokens source list × (length list ≤ 200001)
Fits source (Err (AFault fault at)) = (length source ≤ 1048576) × ((count : ℕ) × LexFault source fault at count × (count ≤ 200000))
Fits source (Err (Over number count)) =
    ((1048576 < length source) × (number ≡ 1) × (count ≡ length source))
    ⊎ ((length source ≤ 1048576) × MoreTokens source 200000 × (number ≡ 2) × (count ≡ 200001))
Fits source (Err Memory) = ⊥
