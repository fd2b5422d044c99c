-- Each name among the tokens of a source has a letter.
use Rattle.std.proofs.Common.{ℕ, ◌<◌, ◌+◌, List, [], ◌∷◌, ◌++◌, length, Option, None, Some, sym, subst, arith}
use Rattle.c_lexer.specs.declared.token.Mark.{Mark}
use Rattle.c_lexer.specs.declared.token.Mark.TheVariants as mark
use Rattle.c_lexer.specs.declared.token.Token.{Token}
use Rattle.c_lexer.specs.declared.token.TokenKind.{TokenKind}
use Rattle.c_lexer.specs.declared.token.TokenKind.TheVariants as kind
use Rattle.c_tokens.specs.Divisions.{Piece, Gap, Lexed, Divided, Tokens, tokens_in, end_token}
use Rattle.c_tokens.specs.Forms.{IsWord, IsForm}
use Rattle.c_tree.specs.declared.symbol.Keyword.{Keyword}
use Rattle.c_tree.specs.declared.symbol.Keyword.TheVariants as key
use Rattle.c_tree.specs.Symbols.{word_symbol, mark_symbol, symbol_of, keyword_of, signs_of}
use Rattle.elaboration_offset_laws.specs.Laws.{HasLetter, HaveLetters}

word_letter : (text : List ℕ) (k : Option Keyword) → 0 < length text → HasLetter (word_symbol text k)
word_letter text None h = h
word_letter text (Some (key.Type w)) h = tt
word_letter text (Some (key.Storage w)) h = tt
word_letter text (Some (key.Const w)) h = tt
word_letter text (Some (key.Attribute w)) h = tt
word_letter text (Some (key.Statement w)) h = tt
word_letter text (Some key.Enum) h = tt
word_letter text (Some key.Extension) h = tt
word_letter text (Some key.Sizeof) h = tt
word_letter text (Some key.Listed) h = tt
word_letter text (Some key.Foreign) h = tt

mark_letter : (m : Mark) → HasLetter (mark_symbol m)
mark_letter mark.BracketOpen = tt
mark_letter mark.BracketClose = tt
mark_letter mark.ParenOpen = tt
mark_letter mark.ParenClose = tt
mark_letter mark.BraceOpen = tt
mark_letter mark.BraceClose = tt
mark_letter mark.Dot = tt
mark_letter mark.Arrow = tt
mark_letter mark.Increment = tt
mark_letter mark.Decrement = tt
mark_letter mark.Ampersand = tt
mark_letter mark.Star = tt
mark_letter mark.Plus = tt
mark_letter mark.Minus = tt
mark_letter mark.Tilde = tt
mark_letter mark.Bang = tt
mark_letter mark.Slash = tt
mark_letter mark.Percent = tt
mark_letter mark.ShiftLeft = tt
mark_letter mark.ShiftRight = tt
mark_letter mark.Less = tt
mark_letter mark.Greater = tt
mark_letter mark.LessEqual = tt
mark_letter mark.GreaterEqual = tt
mark_letter mark.Equal = tt
mark_letter mark.NotEqual = tt
mark_letter mark.Caret = tt
mark_letter mark.Bar = tt
mark_letter mark.AndAnd = tt
mark_letter mark.OrOr = tt
mark_letter mark.Question = tt
mark_letter mark.Colon = tt
mark_letter mark.Semicolon = tt
mark_letter mark.Ellipsis = tt
mark_letter mark.Assign = tt
mark_letter mark.StarAssign = tt
mark_letter mark.SlashAssign = tt
mark_letter mark.PercentAssign = tt
mark_letter mark.PlusAssign = tt
mark_letter mark.MinusAssign = tt
mark_letter mark.ShiftLeftAssign = tt
mark_letter mark.ShiftRightAssign = tt
mark_letter mark.AmpersandAssign = tt
mark_letter mark.CaretAssign = tt
mark_letter mark.BarAssign = tt
mark_letter mark.Comma = tt

word_long : (text : List ℕ) → IsWord text → 0 < length text
word_long [] h = absurd h
word_long (x ∷ text) h = omega arith

token_letter : (k : TokenKind) (text : List ℕ) → IsForm k text → HasLetter (symbol_of k)
token_letter (kind.Word bytes) text h = word_letter bytes (keyword_of bytes) (subst (λ x. 0 < length x) (sym h.1) (word_long text h.0))
token_letter (kind.Number value form) text h = tt
token_letter (kind.Letter value) text h = tt
token_letter kind.Str text h = tt
token_letter (kind.Mark m) text h = mark_letter m
token_letter kind.End text h = tt

divided_letters : (source : List ℕ) (pieces : List Piece) (at : ℕ) → Divided source at pieces (length source) → HaveLetters (signs_of (tokens_in at pieces ++ end_token source ∷ []))
divided_letters source [] at h = (tt, tt)
divided_letters source (Gap n ∷ pieces) at h = divided_letters source pieces (at + n) h.1
divided_letters source (Lexed k n ∷ pieces) at h = (token_letter k _ h.0.form, divided_letters source pieces (at + n) h.1)

pub letters_of : (source : List ℕ) (list : List Token) → Tokens source list → HaveLetters (signs_of list)
letters_of source list h = subst (λ tokens. HaveLetters (signs_of tokens)) (sym h.listed) (divided_letters source h.pieces 0 h.divided)
