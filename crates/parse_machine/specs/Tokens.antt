-- What a token does, by the place at which it comes.
use Rattle.std.specs.Prelude.{ℕ, ℤ, zero, suc, Bool, true, false, List, if◌then◌else◌}
use Rattle.c_lexer.specs.declared.token.NumberForm.{NumberForm}
use Rattle.c_tree.specs.declared.symbol.BinaryOp.{BinaryOp}
use Rattle.c_tree.specs.declared.symbol.BinaryOp.TheVariants as op
use Rattle.c_tree.specs.declared.symbol.AssignOp.{AssignOp}
use Rattle.c_tree.specs.declared.symbol.Crement.{Crement}
use Rattle.c_tree.specs.declared.symbol.Crement.TheVariants as cr
use Rattle.c_tree.specs.declared.symbol.Bracket.{Bracket}
use Rattle.c_tree.specs.declared.symbol.Bracket.TheVariants as br
use Rattle.c_tree.specs.declared.symbol.TypeWord.{TypeWord}
use Rattle.c_tree.specs.declared.symbol.StorageWord.{StorageWord}
use Rattle.c_tree.specs.declared.symbol.StorageWord.TheVariants as storage
use Rattle.c_tree.specs.declared.symbol.ConstWord.{ConstWord}
use Rattle.c_tree.specs.declared.symbol.AttributeWord.{AttributeWord}
use Rattle.c_tree.specs.declared.symbol.StatementWord.{StatementWord}
use Rattle.c_tree.specs.declared.symbol.StatementWord.TheVariants as key
use Rattle.c_tree.specs.declared.symbol.Symbol.{Symbol}
use Rattle.c_tree.specs.declared.symbol.Symbol.TheVariants as sy
use Rattle.c_tree.specs.declared.tree.PrefixOp.{PrefixOp}
use Rattle.c_tree.specs.declared.tree.PrefixOp.TheVariants as pre
use Rattle.c_tree.specs.Shape.{has, is_bracket}

-- where an operand is to come
pub data Prefix : Type 0 where
  preName : List ℕ → Prefix
  preNumber : ℕ → NumberForm → Prefix
  preLetter : ℤ → Prefix
  preOpen : Prefix
  preSizeof : Prefix
  preOperator : PrefixOp → Prefix
  preOther : Prefix

abbrev pub prefix_of : Symbol → Prefix
prefix_of (sy.Name n) = preName n
prefix_of (sy.Number v f) = preNumber v f
prefix_of (sy.Letter v) = preLetter v
prefix_of (sy.Open br.Round) = preOpen
prefix_of sy.Sizeof = preSizeof
prefix_of (sy.Crement cr.Increment) = preOperator pre.Increment
prefix_of (sy.Crement cr.Decrement) = preOperator pre.Decrement
prefix_of (sy.Binary op.Add) = preOperator pre.Plus
prefix_of (sy.Binary op.Subtract) = preOperator pre.Minus
prefix_of sy.Tilde = preOperator pre.Complement
prefix_of sy.Bang = preOperator pre.Not
prefix_of sy.Extension = preOperator pre.Extension
prefix_of _ = preOther

-- behind an operand
pub data Suffix : Type 0 where
  sufBinary : BinaryOp → Suffix
  sufAssign : AssignOp → Suffix
  sufQuestion : Suffix
  sufComma : Suffix
  sufColon : Suffix
  sufSemicolon : Suffix
  sufClose : Bracket → Suffix
  sufOpenRound : Suffix
  sufOpenSquare : Suffix
  sufCrement : Crement → Suffix
  sufOther : Suffix

abbrev pub suffix_of : Symbol → Suffix
suffix_of (sy.Binary o) = sufBinary o
suffix_of (sy.Assign o) = sufAssign o
suffix_of sy.Question = sufQuestion
suffix_of sy.Comma = sufComma
suffix_of sy.Colon = sufColon
suffix_of sy.Semicolon = sufSemicolon
suffix_of (sy.Close b) = sufClose b
suffix_of (sy.Open br.Round) = sufOpenRound
suffix_of (sy.Open br.Square) = sufOpenSquare
suffix_of (sy.Crement c) = sufCrement c
suffix_of _ = sufOther

-- where a word of a declaration may come; a typedef name is one
pub data SpecKind : Type 0 where
  spType : TypeWord → SpecKind
  spStorage : StorageWord → SpecKind
  spConst : ConstWord → SpecKind
  spExtension : SpecKind
  spAttribute : AttributeWord → SpecKind
  spEnum : SpecKind
  spTypedef : List ℕ → SpecKind
  spOther : SpecKind

abbrev pub spec_of : List (List ℕ) → Symbol → SpecKind
spec_of names (sy.Type w) = spType w
spec_of names (sy.Storage w) = spStorage w
spec_of names (sy.Const w) = spConst w
spec_of names sy.Extension = spExtension
spec_of names (sy.Attribute w) = spAttribute w
spec_of names sy.Enum = spEnum
spec_of names (sy.Name n) = if has names n then spTypedef n else spOther
spec_of names _ = spOther

abbrev pub begins_specs : SpecKind → Bool
begins_specs spOther = false
begins_specs _ = true

-- where a statement is to come
pub data Start : Type 0 where
  startEmpty : Start
  startOpen : Start
  startClose : Start
  startWord : StatementWord → Start
  startOther : Start

abbrev pub start_of : Symbol → Start
start_of sy.Semicolon = startEmpty
start_of (sy.Open br.Curly) = startOpen
start_of (sy.Close br.Curly) = startClose
start_of (sy.Statement w) = startWord w
start_of _ = startOther

abbrev pub is_else : Symbol → Bool
is_else (sy.Statement key.Else) = true
is_else _ = false

-- among tokens that are kept as they stand: how many brackets are open behind it, the end, or no end
pub data Skip : Type 0 where
  skipOn : ℕ → Skip
  skipClose : Skip
  skipEnd : Skip

abbrev pub skip_close : ℕ → Skip
skip_close zero = skipClose
skip_close (suc n) = skipOn n

abbrev pub skip_of : Bracket → Symbol → ℕ → Skip
skip_of b (sy.Open c) n = if is_bracket b c then skipOn (suc n) else skipOn n
skip_of b (sy.Close c) n = if is_bracket b c then skip_close n else skipOn n
skip_of b sy.End n = skipEnd
skip_of b _ n = skipOn n

-- what is known of C and left out of the subset
abbrev pub is_unsupported : Symbol → Bool
is_unsupported (sy.Listed n) = true
is_unsupported (sy.Foreign n) = true
is_unsupported (sy.Storage storage.Static) = true
is_unsupported (sy.Storage storage.Extern) = true
is_unsupported sy.Dot = true
is_unsupported sy.Arrow = true
is_unsupported sy.Ellipsis = true
is_unsupported (sy.Binary op.Multiply) = true
is_unsupported (sy.Binary op.BitAnd) = true
is_unsupported sy.Str = true
is_unsupported _ = false

-- one token that may come, and no other
pub data Awaited : Type 0 where
  awaitOpen : Bracket → Awaited
  awaitClose : Awaited
  awaitSemicolon : Awaited
  awaitColon : Awaited
  awaitWhile : Awaited

abbrev pub is_awaited : Awaited → Symbol → Bool
is_awaited (awaitOpen b) (sy.Open c) = is_bracket b c
is_awaited awaitClose (sy.Close br.Round) = true
is_awaited awaitSemicolon sy.Semicolon = true
is_awaited awaitColon sy.Colon = true
is_awaited awaitWhile (sy.Statement key.While) = true
is_awaited _ _ = false
