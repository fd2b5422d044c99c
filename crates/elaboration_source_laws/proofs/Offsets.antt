-- The tokens of a source rise.
use Rattle.std.proofs.Common.{◌≡◌, ℕ, zero, suc, ◌≤◌, ◌<◌, ◌+◌, List, [], ◌∷◌, ◌++◌, length, take, refl, sym, ◌∙◌, subst, arith}
use Rattle.c_lexer.specs.Marks.{mark_text}
use Rattle.c_lexer.specs.declared.token.Mark.{Mark}
use Rattle.c_lexer.specs.declared.token.Mark.TheVariants as mark
use Rattle.c_tokens.specs.Divisions.{Piece, Gap, Lexed, Divided, tokens_in, end_token}
use Rattle.c_tokens.specs.Forms.{PpNumber, a_digit, a_point, one_more, exponent, Lexeme, a_word, a_number, a_character, a_string, a_mark, IsQuoted}
use Rattle.c_tree.specs.declared.symbol.SymbolAt.{SymbolAt}
use Rattle.c_tree.specs.Symbols.{signs_of}
use Rattle.elaboration_offset_laws.specs.Rising.{Rises}
use Rattle.elaboration_source_laws.specs.Laws.{TokensRise}

-- ---- No preprocessing token is empty

no_end : (front : List ℕ) (b : ℕ) (rest : List ℕ) → [] ≡ front ++ b ∷ rest → ⊥
no_end [] b rest h = cc
no_end (x ∷ front) b rest h = cc

no_number : (x : List ℕ) → x ≡ [] → PpNumber x → ⊥
no_number x e (a_digit d h k) = no_end [] d [] (sym e ∙ k)
no_number x e (a_point d h k) = no_end [] 46 (d ∷ []) (sym e ∙ k)
no_number x e (one_more front b h g k) = no_end front b [] (sym e ∙ k)
no_number x e (exponent front y z h g f k) = no_end front y (z ∷ []) (sym e ∙ k)

no_mark : (m : Mark) → [] ≡ mark_text m → ⊥
no_mark mark.Comma h = cc
no_mark m h = cc

no_quoted : (quote : ℕ) → IsQuoted quote [] → ⊥
no_quoted quote h = no_end [] quote (h.body ++ quote ∷ []) h.written

no_lexeme : Lexeme [] → ⊥
no_lexeme (a_word h) = absurd h
no_lexeme (a_number h) = no_number [] refl h
no_lexeme (a_character h) = no_quoted 39 h
no_lexeme (a_string h) = no_quoted 34 h
no_lexeme (a_mark m h) = no_mark m h

-- ---- Rising

not_empty : (rest : List ℕ) (n : ℕ) → Lexeme (take n rest) → 0 < n
not_empty rest zero h = absurd (no_lexeme h)
not_empty rest (suc n) h = omega arith

-- from an earlier offset on
earlier : (signs : List SymbolAt) (lo low : ℕ) → low ≤ lo → Rises lo signs → Rises low signs
earlier [] lo low l h = tt
earlier (s ∷ signs) lo low l h = ((let e : lo ≤ s.at = h.0 in omega (arith, l, e)), h.1)

divided_rises : (source : List ℕ) (pieces : List Piece) (at : ℕ) → Divided source at pieces (length source) → Rises at (signs_of (tokens_in at pieces ++ end_token source ∷ []))
divided_rises source [] at h = (omega (arith, h), tt)
divided_rises source (Gap n ∷ pieces) at h =
    earlier (signs_of (tokens_in (at + n) pieces ++ end_token source ∷ [])) (at + n) at (omega arith) (divided_rises source pieces (at + n) h.1)
divided_rises source (Lexed kind n ∷ pieces) at h =
    let l = not_empty _ n h.0.longest.formed in
    (omega arith, earlier (signs_of (tokens_in (at + n) pieces ++ end_token source ∷ [])) (at + n) (suc at) (omega (arith, l)) (divided_rises source pieces (at + n) h.1))

pub tokens_rise_is : TokensRise
tokens_rise_is source list h = subst (λ tokens. Rises 0 (signs_of tokens)) (sym h.listed) (divided_rises source h.pieces 0 h.divided)
