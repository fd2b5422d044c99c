-- The spans of a token list.
use Rattle.std.proofs.Common.{◌≡◌, ℕ, ◌+◌, ◌-◌, ◌≤◌, List, [], ◌∷◌, ◌++◌, length, drop, refl, sym, subst, arith, inl, inr}
use Rattle.c_lexer.specs.declared.token.Token.{Token}
use Rattle.c_tokens.specs.Divisions.{Piece, Divided, tokens_in, end_token, Tokens}
use Rattle.c_tokens.specs.Divisions.Piece.{Gap, Lexed}
use Rattle.c_tokens.specs.Forms.{IsToken}
use Rattle.c_tokens.specs.Laws.{Rise, AreFormed}

rises : (source : List ℕ) (pieces : List Piece) (low at : ℕ) → low ≤ at → Divided source at pieces (length source) → Rise low (tokens_in at pieces ++ end_token source ∷ [])
rises source [] low at le divided = (omega (arith, divided), omega arith, tt)
rises source (Gap n ∷ pieces) low at le divided = rises source pieces low (at + n) (omega arith) divided.1
rises source (Lexed kind n ∷ pieces) low at le divided = (le, omega arith, rises source pieces (at + n) (at + n) (omega arith) divided.1)

formed : (source : List ℕ) (pieces : List Piece) (at : ℕ) → Divided source at pieces (length source) → AreFormed source (tokens_in at pieces ++ end_token source ∷ [])
formed source [] at divided = (inl refl, tt)
formed source (Gap n ∷ pieces) at divided = formed source pieces (at + n) divided.1
formed source (Lexed kind n ∷ pieces) at divided =
    let cut : n ≡ at + n - at = omega arith in
    (inr (subst (λ (k : ℕ). IsToken (drop at source) kind k) cut divided.0), formed source pieces (at + n) divided.1)

pub spans_of : (source : List ℕ) (list : List Token) → Tokens source list → Rise 0 list × AreFormed source list
spans_of source list t =
    subst (λ (l : List Token). Rise 0 l × AreFormed source l) (sym t.listed) (rises source t.pieces 0 0 (omega arith) t.divided, formed source t.pieces 0 t.divided)
