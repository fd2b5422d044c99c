-- Statements.
use Rattle.std.specs.Prelude.{ℕ, List, [], ◌∷◌, ◌++◌, length, take, Option, None, Some, not, if◌then◌else◌}
use Rattle.c_tree.specs.declared.symbol.Bracket.TheVariants as br
use Rattle.c_tree.specs.declared.symbol.StatementWord.{StatementWord}
use Rattle.c_tree.specs.declared.symbol.StatementWord.TheVariants as key
use Rattle.c_tree.specs.declared.symbol.Symbol.{Symbol}
use Rattle.c_tree.specs.declared.symbol.Symbol.TheVariants as sy
use Rattle.c_tree.specs.declared.tree.PrefixOp.TheVariants as pre
use Rattle.c_tree.specs.Shape.{has}
use Rattle.c_tree.specs.Tree.{no_raw, Ats, no_parts, pVoid, fFunction, St, sBlock, sEmpty, sDo, sGoto, sBreak, sContinue, no_statements, statements_and, Body, bBlock, Item, tFunction}
use Rattle.parse_machine.specs.Tokens.{prefix_of, SpecKind, spExtension, spOther, spec_of, Start, startEmpty, startOpen, startClose, startWord, startOther, start_of, is_else, Awaited, awaitOpen, awaitClose, awaitSemicolon, awaitColon, awaitWhile, is_awaited}
use Rattle.parse_machine.specs.Contexts.{bPrefix, oParen, testIf, testWhile, testSwitch, Wrap, wThen, wElse, wFor, wDefault, wLabel, Header, Outer, outBody, outBlock, outDo, outWrap, placeBlock, placeFor, baseStatement, baseTest, baseDo, baseReturn, baseCase, baseStart, basePart, Inner, inBase, inBind, inOpen, Around, aroundCast, aroundSizeof, aroundPlace, onLabel, Fork, forkCast, forkSizeof, forkBlock, forkFor, Waiting, waitTest, waitWhile, waitDo, waitDone, waitFor, waitDefault, waitGoto, waitBreak, waitContinue, waitVoid, waitList, waitAttribute, Mode, Ended, Attribute, Behind, Begin, Wait, Either, Goto, Operand, Maybe, Whole}
use Rattle.parse_machine.specs.Making.{tall, unspoken, extension_words, wrapped, with_form}
use Rattle.parse_machine.specs.Expressions.{when, step_operand, step_maybe}
use Rattle.parse_machine.specs.Specifiers.{step_specs}
use Rattle.parse_machine.specs.Declarations.{Turn, turn, kept}
use Rattle.parse_machine.specs.Heights.{is_list}

-- Words or an expression.

abbrev pub fork_around : Fork → Around
fork_around (forkCast a k) = aroundCast a k
fork_around (forkSizeof x a k) = aroundSizeof x a k
fork_around (forkBlock o) = aroundPlace (placeBlock o)
fork_around (forkFor m x a o) = aroundPlace (placeFor m x a o)

abbrev pub fork_inner : Fork → Inner
fork_inner (forkCast a k) = inOpen (oParen a) k
fork_inner (forkSizeof x a k) = inOpen (oParen a) (inBind (bPrefix pre.Sizeof x) k)
fork_inner (forkBlock o) = inBase (baseStatement o)
fork_inner (forkFor m x a o) = inBase (baseStart m x a o)

-- so many times `__extension__` before an operand
abbrev pub extension_binds : List ℕ → Inner → Inner
extension_binds [] k = k
extension_binds (x ∷ ats) k = extension_binds ats (inBind (bPrefix pre.Extension x) k)

abbrev pub fork_kind : List (List ℕ) → SpecKind → Symbol → ℕ → Fork → List ℕ → Option Mode
fork_kind names spExtension t at f ats = Some (Either f (ats ++ at ∷ []))
fork_kind names spOther t at f ats = step_maybe names t at (extension_binds ats (fork_inner f))
fork_kind names _ t at f ats = step_specs names t at (extension_words ats unspoken) (fork_around f)

abbrev pub step_either : List (List ℕ) → Symbol → ℕ → Fork → List ℕ → Option Mode
step_either names t at f ats = fork_kind names (spec_of names t) t at f ats

-- Where a statement is to come.

abbrev pub begin_word : StatementWord → ℕ → Outer → Option Mode
begin_word key.Break at o = Some (Wait (waitBreak at o))
begin_word key.Case at o = Some (Operand (inBase (baseCase at o)))
begin_word key.Continue at o = Some (Wait (waitContinue at o))
begin_word key.Default at o = Some (Wait (waitDefault at o))
begin_word key.Do at o = Some (Begin (outDo at o))
begin_word key.Else at o = None
begin_word key.For at o = Some (Wait (waitFor at o))
begin_word key.Goto at o = Some (Goto at o)
begin_word key.If at o = Some (Wait (waitTest testIf at o))
begin_word key.Return at o = Some (Maybe (inBase (baseReturn at o)))
begin_word key.Switch at o = Some (Wait (waitTest testSwitch at o))
begin_word key.While at o = Some (Wait (waitTest testWhile at o))

abbrev pub function_item : Header → Body → Item
function_item h b = tFunction h.words h.name h.parameters h.attributes b

-- the end of a block, and of the scope of its names
abbrev pub close_block : List (List ℕ) → ℕ → Outer → Option Turn
close_block names at (outBody m h a ss) = Some (turn (Ended (function_item h (bBlock a ss at)) 0) (take m names))
close_block names at (outBlock m a ss o) = Some (turn (Whole (sBlock a ss at) o) (take m names))
close_block names at _ = None

-- a declaration stands directly in a block
abbrev pub begin_other : List (List ℕ) → Symbol → ℕ → Outer → Option Mode
begin_other names t at o = if is_list o then step_either names t at (forkBlock o) [] else step_operand names (prefix_of t) at (inBase (baseStatement o))

abbrev pub step_start : List (List ℕ) → Start → Symbol → ℕ → Outer → Option Turn
step_start names startEmpty t at o = Some (turn (Whole (sEmpty at) o) names)
step_start names startOpen t at o = Some (turn (Begin (outBlock (length names) at no_statements o)) names)
step_start names startClose t at o = close_block names at o
step_start names (startWord w) t at o = kept names (begin_word w at o)
step_start names startOther t at o = kept names (begin_other names t at o)

abbrev pub step_begin : List (List ℕ) → Symbol → ℕ → Outer → Option Turn
step_begin names t at o = step_start names (start_of t) t at o

abbrev pub step_goto : List (List ℕ) → Symbol → ℕ → ℕ → Outer → Option Mode
step_goto names (sy.Name n) at x o = when (not (has names n)) (Wait (waitGoto x n at o))
step_goto names _ at x o = None

abbrev pub step_label : List (List ℕ) → Symbol → ℕ → List ℕ → ℕ → ℕ → Ats → Outer → Option Turn
step_label names (sy.Attribute w) at n x b ats o = Some (turn (Wait (waitAttribute w at (onLabel n x b ats o))) names)
step_label names t at n x b ats o = step_begin names t at (outWrap (wLabel n x b ats) o)

-- One token that may come.

abbrev pub awaited : Waiting → Awaited
awaited (waitTest t x o) = awaitOpen br.Round
awaited (waitWhile x s o) = awaitWhile
awaited (waitDo x s y o) = awaitOpen br.Round
awaited (waitDone x s h o) = awaitSemicolon
awaited (waitFor x o) = awaitOpen br.Round
awaited (waitDefault x o) = awaitColon
awaited (waitGoto x n y o) = awaitSemicolon
awaited (waitBreak x o) = awaitSemicolon
awaited (waitContinue x o) = awaitSemicolon
awaited (waitVoid d a x) = awaitClose
awaited (waitList d x) = awaitOpen br.Curly
awaited (waitAttribute w x y) = awaitOpen br.Round

abbrev pub arrived : List (List ℕ) → ℕ → Waiting → Mode
arrived names at (waitTest t x o) = Operand (inBase (baseTest t x at o))
arrived names at (waitWhile x s o) = Wait (waitDo x s at o)
arrived names at (waitDo x s y o) = Operand (inBase (baseDo x s y at o))
arrived names at (waitDone x s h o) = Whole (sDo x s h at) o
arrived names at (waitFor x o) = Either (forkFor (length names) x at o) []
arrived names at (waitDefault x o) = Begin (outWrap (wDefault x at) o)
arrived names at (waitGoto x n y o) = Whole (sGoto x n y at) o
arrived names at (waitBreak x o) = Whole (sBreak x at) o
arrived names at (waitContinue x o) = Whole (sContinue x at) o
arrived names at (waitVoid d a x) = Behind (with_form d (tall (fFunction (pVoid a x at)) 1))
arrived names at (waitList d x) = Operand (inBase (basePart d x at (tall no_parts 0) None))
arrived names at (waitAttribute w x y) = Attribute w x at no_raw 0 y

abbrev pub step_wait : List (List ℕ) → Symbol → ℕ → Waiting → Option Mode
step_wait names t at x = when (is_awaited (awaited x) t) (arrived names at x)

-- A statement is whole.

-- a `for` ends the scope of what it declares
abbrev pub left : Wrap → List (List ℕ) → List (List ℕ)
left (wFor m h) names = take m names
left _ names = names

-- where a whole statement stands: behind the others of a block, or in a `do`
pub data Settled : Type 0 where
  inBlock : Outer → List (List ℕ) → Settled
  inDo : ℕ → St → Outer → List (List ℕ) → Settled

-- no `else` follows
abbrev pub settle : List (List ℕ) → Outer → St → Settled
settle names (outBody m h a ss) s = inBlock (outBody m h a (statements_and ss s)) names
settle names (outBlock m a ss o) s = inBlock (outBlock m a (statements_and ss s) o) names
settle names (outDo x o) s = inDo x s o names
settle names (outWrap w o) s = settle (left w names) o (wrapped w s)

abbrev pub step_settled : Symbol → ℕ → Settled → Option Turn
step_settled t at (inBlock o names) = step_begin names t at o
step_settled t at (inDo x s o names) = kept names (step_wait names t at (waitWhile x s o))

-- an `else` belongs to the nearest `if` that has none
abbrev pub otherwise : List (List ℕ) → ℕ → Outer → St → Option Turn
otherwise names at (outWrap (wThen h) o) s = Some (turn (Begin (outWrap (wElse h s at) o)) names)
otherwise names at (outWrap w o) s = otherwise (left w names) at o (wrapped w s)
otherwise names at _ s = None

abbrev pub step_whole : List (List ℕ) → Symbol → ℕ → St → Outer → Option Turn
step_whole names t at s o = if is_else t then otherwise names at o s else step_settled t at (settle names o s)
