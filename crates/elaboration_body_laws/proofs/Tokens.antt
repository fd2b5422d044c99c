-- The numbers and character constants among the tokens of a source are in the range of their kinds.
use Rattle.std.proofs.Common.{◌≡◌, inl, inr, ℕ, zero, suc, ◌<◌, ◌+◌, ◌^◌, Bool, true, false, ◌&&◌, ◌||◌, ◌==◌, if◌then◌else◌, List, [], ◌∷◌, ◌++◌, length, Option, None, Some, ℤ, pos, ◌≤ℤ◌, refl, sym, subst, arith}
use Rattle.std.specs.Prelude.{int_le}
use Rattle.std.proofs.lemmas.Int.{ints}
use Rattle.std.proofs.lemmas.Bool.Decides.{nat_tests}
use Rattle.lv_base.specs.declared.kind.Kind.{Kind}
use Rattle.lv_base.specs.declared.kind.Kind.TheVariants as kind
use Rattle.lv_base.specs.declared.kind.Model.{Model}
use Rattle.lv_base.specs.Integers.{InRange, is_in_range, least_of, greatest_of}
use Rattle.c_lexer.specs.Bytes.{is_plain}
use Rattle.c_lexer.specs.Constants.{escape_of}
use Rattle.c_lexer.specs.declared.token.Mark.{Mark}
use Rattle.c_lexer.specs.declared.token.Mark.TheVariants as mark
use Rattle.c_lexer.specs.declared.token.Token.{Token}
use Rattle.c_lexer.specs.declared.token.TokenKind.{TokenKind}
use Rattle.c_lexer.specs.declared.token.TokenKind.TheVariants as token
use Rattle.c_tokens.specs.Constants.{IsCharacter}
use Rattle.c_tokens.specs.Divisions.{Piece, Gap, Lexed, Divided, Tokens, tokens_in, end_token}
use Rattle.c_tokens.specs.Forms.{IsForm, IsWord}
use Rattle.c_tree.specs.declared.symbol.Keyword.{Keyword}
use Rattle.c_tree.specs.declared.symbol.Keyword.TheVariants as key
use Rattle.c_tree.specs.Symbols.{word_symbol, mark_symbol, symbol_of, keyword_of, signs_of}
use Rattle.c_meaning.specs.Kinds.{first_holding, number_kind_of}
use Rattle.elaboration_body_laws.specs.Held.{HeldSymbol, HeldSigns}

-- ---- Numbers

pub in_range : (least greatest z : ℤ) → int_le least z && int_le z greatest ≡ true → (least ≤ℤ z) × (z ≤ℤ greatest)
in_range least greatest z h = both (int_le least z) (int_le z greatest) refl refl h
  where
    both : (p q : Bool) → p ≡ int_le least z → q ≡ int_le z greatest → p && q ≡ true → (least ≤ℤ z) × (z ≤ℤ greatest)
    both true true e f h = (grind (arith, ints, e), grind (arith, ints, f))
    both true false e f h = cc
    both false q e f h = cc

module _ (model : Model) (n : ℕ) where
  first_by : (b : Bool) (k l : Kind) → is_in_range k model (pos n) ≡ b → InRange l model (pos n) → InRange (if b then k else l) model (pos n)
  first_by true k l e h = in_range (least_of k model) (greatest_of k model) (pos n) e
  first_by false k l e h = h

  first_in : (ks : List Kind) (last : Kind) → InRange last model (pos n) → InRange (first_holding model n ks last) model (pos n)
  first_in [] last h = h
  first_in (k ∷ ks) last h = first_by (is_in_range k model (pos n)) k (first_holding model n ks last) refl (first_in ks last h)

  kind_in_range : (decimal unsigned : Bool) (longs : ℕ) → n < 2 ^ 64 → (decimal ≡ true → unsigned ≡ false → n < 2 ^ 63) → InRange (number_kind_of model n decimal unsigned longs) model (pos n)
  kind_in_range decimal true zero h l = first_in (kind.UInt ∷ kind.ULong ∷ []) kind.ULongLong (omega (arith, ints), omega (arith, ints, h))
  kind_in_range decimal true (suc zero) h l = first_in (kind.ULong ∷ []) kind.ULongLong (omega (arith, ints), omega (arith, ints, h))
  kind_in_range decimal true (suc (suc m)) h l = (omega (arith, ints), omega (arith, ints, h))
  kind_in_range true false zero h l = let g : n < 2 ^ 63 = l refl refl in first_in (kind.Int ∷ kind.Long ∷ []) kind.LongLong (omega (arith, ints), omega (arith, ints, g))
  kind_in_range true false (suc zero) h l = let g : n < 2 ^ 63 = l refl refl in first_in (kind.Long ∷ []) kind.LongLong (omega (arith, ints), omega (arith, ints, g))
  kind_in_range true false (suc (suc m)) h l = let g : n < 2 ^ 63 = l refl refl in (omega (arith, ints), omega (arith, ints, g))
  kind_in_range false false zero h l = first_in (kind.Int ∷ kind.UInt ∷ kind.Long ∷ kind.ULong ∷ kind.LongLong ∷ []) kind.ULongLong (omega (arith, ints), omega (arith, ints, h))
  kind_in_range false false (suc zero) h l = first_in (kind.Long ∷ kind.ULong ∷ kind.LongLong ∷ []) kind.ULongLong (omega (arith, ints), omega (arith, ints, h))
  kind_in_range false false (suc (suc m)) h l = first_in (kind.LongLong ∷ []) kind.ULongLong (omega (arith, ints), omega (arith, ints, h))

-- ---- Character constants

module _ (model : Model) where
  small_in_range : (n : ℕ) → n < 128 → InRange kind.Int model (pos n)
  small_in_range n h = (omega (arith, ints), omega (arith, ints, h))

  plain_small : (b : ℕ) → is_plain b ≡ true → b < 128
  plain_small b h = grind (arith, nat_tests, h)

  some_in : (x y : ℤ) → Some x ≡ Some y → InRange kind.Int model x → InRange kind.Int model y
  some_in x y e i = let q : x ≡ y = cc in subst (InRange kind.Int model) q i

  escaped_by : (p q r s u : Bool) (b : ℕ) (v : ℤ) → (u ≡ true → b < 128) → (if p then Some (pos 10) else if q then Some (pos 9) else if r then Some (pos 13) else if s then Some (pos 0) else if u then Some (pos b) else None) ≡ Some v → InRange kind.Int model v
  escaped_by true q r s u b v l h = some_in (pos 10) v h (small_in_range 10 (omega arith))
  escaped_by false true r s u b v l h = some_in (pos 9) v h (small_in_range 9 (omega arith))
  escaped_by false false true s u b v l h = some_in (pos 13) v h (small_in_range 13 (omega arith))
  escaped_by false false false true u b v l h = some_in (pos 0) v h (small_in_range 0 (omega arith))
  escaped_by false false false false true b v l h = some_in (pos b) v h (small_in_range b (l refl))
  escaped_by false false false false false b v l h = cc

  quotable_small : (b : ℕ) → (b == 92) || (b == 39) || (b == 34) ≡ true → b < 128
  quotable_small b h = grind (arith, nat_tests, h)

  escaped_in : (b : ℕ) (v : ℤ) → escape_of b ≡ Some v → InRange kind.Int model v
  escaped_in b v h = escaped_by (b == 110) (b == 116) (b == 114) (b == 48) ((b == 92) || (b == 39) || (b == 34)) b v (quotable_small b) h

  character_in : (v : ℤ) (text : List ℕ) → IsCharacter v text → InRange kind.Int model v
  character_in v text (inl h) = subst (InRange kind.Int model) (sym h.3) (small_in_range h.0 (plain_small h.0 h.2))
  character_in v text (inr h) = escaped_in h.0 v h.2

  -- ---- Tokens

  word_long : (text : List ℕ) → IsWord text → 0 < length text
  word_long [] h = absurd h
  word_long (x ∷ text) h = omega arith

  word_held : (text : List ℕ) (k : Option Keyword) → 0 < length text → HeldSymbol model (word_symbol text k)
  word_held text None h = h
  word_held text (Some (key.Type w)) h = tt
  word_held text (Some (key.Storage w)) h = tt
  word_held text (Some (key.Const w)) h = tt
  word_held text (Some (key.Attribute w)) h = tt
  word_held text (Some (key.Statement w)) h = tt
  word_held text (Some key.Enum) h = tt
  word_held text (Some key.Extension) h = tt
  word_held text (Some key.Sizeof) h = tt
  word_held text (Some key.Listed) h = tt
  word_held text (Some key.Foreign) h = tt

  mark_held : (m : Mark) → HeldSymbol model (mark_symbol m)
  mark_held mark.BracketOpen = tt
  mark_held mark.BracketClose = tt
  mark_held mark.ParenOpen = tt
  mark_held mark.ParenClose = tt
  mark_held mark.BraceOpen = tt
  mark_held mark.BraceClose = tt
  mark_held mark.Dot = tt
  mark_held mark.Arrow = tt
  mark_held mark.Increment = tt
  mark_held mark.Decrement = tt
  mark_held mark.Ampersand = tt
  mark_held mark.Star = tt
  mark_held mark.Plus = tt
  mark_held mark.Minus = tt
  mark_held mark.Tilde = tt
  mark_held mark.Bang = tt
  mark_held mark.Slash = tt
  mark_held mark.Percent = tt
  mark_held mark.ShiftLeft = tt
  mark_held mark.ShiftRight = tt
  mark_held mark.Less = tt
  mark_held mark.Greater = tt
  mark_held mark.LessEqual = tt
  mark_held mark.GreaterEqual = tt
  mark_held mark.Equal = tt
  mark_held mark.NotEqual = tt
  mark_held mark.Caret = tt
  mark_held mark.Bar = tt
  mark_held mark.AndAnd = tt
  mark_held mark.OrOr = tt
  mark_held mark.Question = tt
  mark_held mark.Colon = tt
  mark_held mark.Semicolon = tt
  mark_held mark.Ellipsis = tt
  mark_held mark.Assign = tt
  mark_held mark.StarAssign = tt
  mark_held mark.SlashAssign = tt
  mark_held mark.PercentAssign = tt
  mark_held mark.PlusAssign = tt
  mark_held mark.MinusAssign = tt
  mark_held mark.ShiftLeftAssign = tt
  mark_held mark.ShiftRightAssign = tt
  mark_held mark.AmpersandAssign = tt
  mark_held mark.CaretAssign = tt
  mark_held mark.BarAssign = tt
  mark_held mark.Comma = tt

  token_held : (k : TokenKind) (text : List ℕ) → IsForm k text → HeldSymbol model (symbol_of k)
  token_held (token.Word bytes) text h = word_held bytes (keyword_of bytes) (subst (λ x. 0 < length x) (sym h.1) (word_long text h.0))
  token_held (token.Number value form) text h = kind_in_range model value form.decimal form.unsigned_suffix form.longs h.1.fits h.1.signed
  token_held (token.Letter value) text h = character_in value text h
  token_held token.Str text h = tt
  token_held (token.Mark m) text h = mark_held m
  token_held token.End text h = tt

  divided_held : (source : List ℕ) (pieces : List Piece) (at : ℕ) → Divided source at pieces (length source) → HeldSigns model (signs_of (tokens_in at pieces ++ end_token source ∷ []))
  divided_held source [] at h = (tt, tt)
  divided_held source (Gap n ∷ pieces) at h = divided_held source pieces (at + n) h.1
  divided_held source (Lexed k n ∷ pieces) at h = (token_held k _ h.0.form, divided_held source pieces (at + n) h.1)

  pub tokens_held : (source : List ℕ) (list : List Token) → Tokens source list → HeldSigns model (signs_of list)
  tokens_held source list h = subst (λ tokens. HeldSigns model (signs_of tokens)) (sym h.listed) (divided_held source h.pieces 0 h.divided)
