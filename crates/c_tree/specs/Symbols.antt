-- The tokens of a source as the grammar sees them.
use Rattle.std.specs.Prelude.{ℕ, List, Option, Some, None, map}
use Rattle.std.specs.Option.{option_map}
use Rattle.std.specs.List.{find}
use Rattle.std.specs.Str.{bytes_eq}
use Rattle.c_lexer.specs.declared.token.Token.{Token}
use Rattle.c_lexer.specs.declared.token.TokenKind.{TokenKind}
use Rattle.c_lexer.specs.declared.token.TokenKind.TheVariants as kind
use Rattle.c_lexer.specs.declared.token.Mark.{Mark}
use Rattle.c_lexer.specs.declared.token.Mark.TheVariants as mark
use Rattle.c_tree.specs.declared.symbol.Keyword.{Keyword}
use Rattle.c_tree.specs.declared.symbol.Keyword.TheVariants as key
use Rattle.c_tree.specs.declared.symbol.BinaryOp.TheVariants as op
use Rattle.c_tree.specs.declared.symbol.AssignOp.TheVariants as to
use Rattle.c_tree.specs.declared.symbol.Crement.TheVariants as cr
use Rattle.c_tree.specs.declared.symbol.Bracket.TheVariants as br
use Rattle.c_tree.specs.declared.symbol.Symbol.{Symbol}
use Rattle.c_tree.specs.declared.symbol.Symbol.TheVariants as sy
use Rattle.c_tree.specs.declared.symbol.SymbolAt.{SymbolAt}
use Rattle.c_tree.specs.declared.words.TheConstants.{KEYWORDS}

unfoldable pub keyword_of : List ℕ → Option Keyword
keyword_of text = option_map (λ k. k.1) (find (λ k. bytes_eq k.0.now text) KEYWORDS)

abbrev pub word_symbol : List ℕ → Option Keyword → Symbol
word_symbol text None = sy.Name text
word_symbol text (Some (key.Type w)) = sy.Type w
word_symbol text (Some (key.Storage w)) = sy.Storage w
word_symbol text (Some (key.Const w)) = sy.Const w
word_symbol text (Some (key.Attribute w)) = sy.Attribute w
word_symbol text (Some (key.Statement w)) = sy.Statement w
word_symbol text (Some key.Enum) = sy.Enum
word_symbol text (Some key.Extension) = sy.Extension
word_symbol text (Some key.Sizeof) = sy.Sizeof
word_symbol text (Some key.Listed) = sy.Listed text
word_symbol text (Some key.Foreign) = sy.Foreign text

abbrev pub mark_symbol : Mark → Symbol
mark_symbol mark.BracketOpen = sy.Open br.Square
mark_symbol mark.BracketClose = sy.Close br.Square
mark_symbol mark.ParenOpen = sy.Open br.Round
mark_symbol mark.ParenClose = sy.Close br.Round
mark_symbol mark.BraceOpen = sy.Open br.Curly
mark_symbol mark.BraceClose = sy.Close br.Curly
mark_symbol mark.Dot = sy.Dot
mark_symbol mark.Arrow = sy.Arrow
mark_symbol mark.Increment = sy.Crement cr.Increment
mark_symbol mark.Decrement = sy.Crement cr.Decrement
mark_symbol mark.Ampersand = sy.Binary op.BitAnd
mark_symbol mark.Star = sy.Binary op.Multiply
mark_symbol mark.Plus = sy.Binary op.Add
mark_symbol mark.Minus = sy.Binary op.Subtract
mark_symbol mark.Tilde = sy.Tilde
mark_symbol mark.Bang = sy.Bang
mark_symbol mark.Slash = sy.Binary op.Divide
mark_symbol mark.Percent = sy.Binary op.Remainder
mark_symbol mark.ShiftLeft = sy.Binary op.ShiftLeft
mark_symbol mark.ShiftRight = sy.Binary op.ShiftRight
mark_symbol mark.Less = sy.Binary op.Less
mark_symbol mark.Greater = sy.Binary op.Greater
mark_symbol mark.LessEqual = sy.Binary op.LessEqual
mark_symbol mark.GreaterEqual = sy.Binary op.GreaterEqual
mark_symbol mark.Equal = sy.Binary op.Equal
mark_symbol mark.NotEqual = sy.Binary op.NotEqual
mark_symbol mark.Caret = sy.Binary op.BitXor
mark_symbol mark.Bar = sy.Binary op.BitOr
mark_symbol mark.AndAnd = sy.Binary op.AndAlso
mark_symbol mark.OrOr = sy.Binary op.OrElse
mark_symbol mark.Question = sy.Question
mark_symbol mark.Colon = sy.Colon
mark_symbol mark.Semicolon = sy.Semicolon
mark_symbol mark.Ellipsis = sy.Ellipsis
mark_symbol mark.Assign = sy.Assign to.Plain
mark_symbol mark.StarAssign = sy.Assign to.Multiply
mark_symbol mark.SlashAssign = sy.Assign to.Divide
mark_symbol mark.PercentAssign = sy.Assign to.Remainder
mark_symbol mark.PlusAssign = sy.Assign to.Add
mark_symbol mark.MinusAssign = sy.Assign to.Subtract
mark_symbol mark.ShiftLeftAssign = sy.Assign to.ShiftLeft
mark_symbol mark.ShiftRightAssign = sy.Assign to.ShiftRight
mark_symbol mark.AmpersandAssign = sy.Assign to.BitAnd
mark_symbol mark.CaretAssign = sy.Assign to.BitXor
mark_symbol mark.BarAssign = sy.Assign to.BitOr
mark_symbol mark.Comma = sy.Comma

abbrev pub symbol_of : TokenKind → Symbol
symbol_of (kind.Word text) = word_symbol text (keyword_of text)
symbol_of (kind.Number value form) = sy.Number value form
symbol_of (kind.Letter value) = sy.Letter value
symbol_of kind.Str = sy.Str
symbol_of (kind.Mark m) = mark_symbol m
symbol_of kind.End = sy.End

abbrev pub sign : Symbol → ℕ → SymbolAt
sign s at = record { symbol = s; at = at }

abbrev pub sign_of : Token → SymbolAt
sign_of t = sign (symbol_of t.kind) t.at

abbrev pub signs_of : List Token → List SymbolAt
signs_of tokens = map sign_of tokens
