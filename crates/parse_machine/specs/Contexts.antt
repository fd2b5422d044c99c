-- What is open around the place that the machine has reached, and the modes of the machine.
use Rattle.std.specs.Prelude.{ℕ, List, Option}
use Rattle.c_tree.specs.declared.symbol.BinaryOp.{BinaryOp}
use Rattle.c_tree.specs.declared.symbol.AssignOp.{AssignOp}
use Rattle.c_tree.specs.declared.symbol.AttributeWord.{AttributeWord}
use Rattle.c_tree.specs.declared.tree.PrefixOp.{PrefixOp}
use Rattle.c_tree.specs.declared.known.Known.{Known}
use Rattle.c_tree.specs.Tree.{Raw, Ats, Ex, Parts, Words, Ens, Params, Form, Decs, Head, ForStart, ForHead, Name, Parameters, St, Sts, Item}

-- something with its height, where 201 stands for all that is higher than 200
pub record Tall (A : Type 0) : Type 0 where
  pub value : A
  pub height : ℕ

-- An expression with how tight it binds. Higher than 200, no tree is kept.
pub record Part : Type 0 where
  pub value : Ex
  pub level : ℕ
  pub height : ℕ

-- the words of a declaration so far, and what they say
pub record Spoken : Type 0 where
  pub words : Words
  pub told : Known
  pub height : ℕ

-- An operator whose last operand is to come: a + [], - [], (int) [], a = [], c ? a : [], a , [].
pub data Bind : Type 0 where
  bBinary : Part → BinaryOp → ℕ → Bind
  bPrefix : PrefixOp → ℕ → Bind
  bCast : ℕ → Tall Words → ℕ → Bind
  bAssign : Part → AssignOp → ℕ → Bind
  bElse : Part → ℕ → Part → ℕ → Bind
  bComma : Tall Parts → ℕ → Bind

-- An expression that its own token ends: ( [] ), a [ [] ], f ( a , [] ), c ? [] : b.
pub data Opened : Type 0 where
  oParen : ℕ → Opened
  oIndex : Part → ℕ → Opened
  oArgument : Part → ℕ → Tall Parts → Option ℕ → Opened
  oThen : Part → ℕ → Opened

-- `if`, `while` or `switch`
pub data Test : Type 0 where
  testIf : Test
  testWhile : Test
  testSwitch : Test

-- what stands before a statement that it ends with
pub data Wrap : Type 0 where
  wThen : Head → Wrap
  wElse : Head → St → ℕ → Wrap
  wWhile : Head → Wrap
  wSwitch : Head → Wrap
  wFor : ℕ → ForHead → Wrap
  wCase : ℕ → Ex → ℕ → Wrap
  wDefault : ℕ → ℕ → Wrap
  wLabel : List ℕ → ℕ → ℕ → Ats → Wrap

-- a function before its block
pub record Header : Type 0 where
  pub words : Words
  pub name : Name
  pub parameters : Parameters
  pub attributes : Ats

-- What is open around a statement. A block and a `for` keep how many typedef names were in scope before.
pub data Outer : Type 0 where
  outBody : ℕ → Header → ℕ → Sts → Outer
  outBlock : ℕ → ℕ → Sts → Outer → Outer
  outDo : ℕ → Outer → Outer
  outWrap : Wrap → Outer → Outer

-- where a declaration stands
pub data Place : Type 0 where
  placeFile : Place
  placeBlock : Outer → Place
  placeFor : ℕ → ℕ → ℕ → Outer → Place

-- a declaration before a declared name or behind one
pub record Declaring : Type 0 where
  pub place : Place
  pub spoken : Spoken
  pub before : Tall Decs

-- a declared name and what stands behind it so far
pub record Declared : Type 0 where
  pub around : Declaring
  pub comma : Option ℕ
  pub name : List ℕ
  pub at : ℕ
  pub form : Tall Form
  pub attributes : Ats

-- `enum {` or `enum NAME {`
pub data EnumHead : Type 0 where
  headBare : ℕ → ℕ → EnumHead
  headTagged : ℕ → List ℕ → ℕ → ℕ → EnumHead

-- what is open around an expression, outside of all expressions
pub data Base : Type 0 where
  baseStatement : Outer → Base
  baseTest : Test → ℕ → ℕ → Outer → Base
  baseDo : ℕ → St → ℕ → ℕ → Outer → Base
  baseReturn : ℕ → Outer → Base
  baseCase : ℕ → Outer → Base
  baseStart : ℕ → ℕ → ℕ → Outer → Base
  baseMore : ℕ → ℕ → ℕ → ForStart → Outer → Base
  baseStep : ℕ → ℕ → ℕ → ForStart → Option Ex → ℕ → Outer → Base
  baseLength : Declared → ℕ → Base
  baseInitial : Declared → ℕ → Base
  basePart : Declared → ℕ → ℕ → Tall Parts → Option ℕ → Base

mutual
  -- what is open around an expression
  pub data Inner : Type 0 where
    inBase : Base → Inner
    inBind : Bind → Inner → Inner
    inOpen : Opened → Inner → Inner
    inConstant : Around → Spoken → EnumHead → Tall Ens → Option ℕ → List ℕ → ℕ → ℕ → Inner

  -- what is open around words: a cast, `sizeof`, a parameter, or a declaration
  pub data Around : Type 0 where
    aroundCast : ℕ → Inner → Around
    aroundSizeof : ℕ → ℕ → Inner → Around
    aroundParameter : Declared → ℕ → Tall Params → Option ℕ → Around
    aroundPlace : Place → Around

-- behind the `{` or the comma of an enumeration
pub record Listing : Type 0 where
  pub around : Around
  pub spoken : Spoken
  pub head : EnumHead
  pub before : Tall Ens
  pub comma : Option ℕ

-- what has an attribute
pub data Attributed : Type 0 where
  onWords : Spoken → Around → Attributed
  onDeclared : Declared → Attributed
  onLabel : List ℕ → ℕ → ℕ → Ats → Outer → Attributed

-- where words or an expression may come: behind `(`, behind `sizeof (`, where a statement may begin, behind `for (`
pub data Fork : Type 0 where
  forkCast : ℕ → Inner → Fork
  forkSizeof : ℕ → ℕ → Inner → Fork
  forkBlock : Outer → Fork
  forkFor : ℕ → ℕ → ℕ → Outer → Fork

-- where one token may come
pub data Waiting : Type 0 where
  waitTest : Test → ℕ → Outer → Waiting
  waitWhile : ℕ → St → Outer → Waiting
  waitDo : ℕ → St → ℕ → Outer → Waiting
  waitDone : ℕ → St → Head → Outer → Waiting
  waitFor : ℕ → Outer → Waiting
  waitDefault : ℕ → Outer → Waiting
  waitGoto : ℕ → List ℕ → ℕ → Outer → Waiting
  waitBreak : ℕ → Outer → Waiting
  waitContinue : ℕ → Outer → Waiting
  waitVoid : Declared → ℕ → ℕ → Waiting
  waitList : Declared → ℕ → Waiting
  waitAttribute : AttributeWord → ℕ → Attributed → Waiting

pub data Mode : Type 0 where
  -- the first item is to come, or the end
  File : Mode
  -- an item is whole; where it is a declaration, with its height
  Ended : Item → ℕ → Mode
  -- a word of a declaration is to come, or what follows them
  Specifiers : Spoken → Around → Mode
  -- behind `enum`, and behind `enum NAME`
  Enumeration : ℕ → Spoken → Around → Mode
  Tagged : ℕ → List ℕ → ℕ → Spoken → Around → Mode
  -- an enumerator is to come, or behind a comma the end of the list
  Constant : Listing → Mode
  -- behind the name of an enumerator
  Named : Listing → List ℕ → ℕ → Mode
  -- among the tokens of an attribute, with how many brackets are open in it
  Attribute : AttributeWord → ℕ → ℕ → Raw → ℕ → Attributed → Mode
  -- a declared name is to come behind a comma
  Next : Declaring → ℕ → Mode
  -- behind a declared name
  Behind : Declared → Mode
  -- a declared name is whole: a comma or `;` is to come
  Listed : Declaring → Mode
  -- behind the `(` of parameters
  Parameters' : Declared → ℕ → Mode
  -- behind the name of a parameter
  Parameter : Declared → ℕ → Tall Params → Option ℕ → Spoken → List ℕ → ℕ → Mode
  -- among the tokens of a block that is skipped
  Skipped : Header → ℕ → Raw → ℕ → Mode
  -- a statement is to come, or the end of a block
  Begin : Outer → Mode
  -- one token is to come
  Wait : Waiting → Mode
  -- words or an expression are to come; these are the offsets of `__extension__` so far
  Either : Fork → List ℕ → Mode
  -- behind `goto`
  Goto : ℕ → Outer → Mode
  -- an operand is to come
  Operand : Inner → Mode
  -- an expression is to come that may be left out
  Maybe : Inner → Mode
  -- behind `sizeof`
  Sizeof : ℕ → Inner → Mode
  -- an operand is whole
  Value : Part → Inner → Mode
  -- behind a label and its attributes
  Label : List ℕ → ℕ → ℕ → Ats → Outer → Mode
  -- a statement is whole, and an `else` may follow
  Whole : St → Outer → Mode
  -- all is whole
  Finished : Mode
