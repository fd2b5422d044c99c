-- The trees, without where they lie in memory. A number is the offset of a token; a list has its last element outermost.
use Rattle.std.specs.Prelude.{ℕ, ℤ, List, Option}
use Rattle.c_lexer.specs.declared.token.NumberForm.{NumberForm}
use Rattle.c_tree.specs.declared.symbol.SymbolAt.{SymbolAt}
use Rattle.c_tree.specs.declared.symbol.TypeWord.{TypeWord}
use Rattle.c_tree.specs.declared.symbol.StorageWord.{StorageWord}
use Rattle.c_tree.specs.declared.symbol.ConstWord.{ConstWord}
use Rattle.c_tree.specs.declared.symbol.AttributeWord.{AttributeWord}
use Rattle.c_tree.specs.declared.symbol.BinaryOp.{BinaryOp}
use Rattle.c_tree.specs.declared.symbol.AssignOp.{AssignOp}
use Rattle.c_tree.specs.declared.symbol.Crement.{Crement}
use Rattle.c_tree.specs.declared.tree.PrefixOp.{PrefixOp}

-- tokens that are kept as they stand
pub data Raw : Type 0 where
  no_raw : Raw
  raw_and : Raw → SymbolAt → Raw

-- the word, `(`, the tokens between, `)`
pub data At : Type 0 where
  attribute : AttributeWord → ℕ → ℕ → Raw → ℕ → At

pub data Ats : Type 0 where
  no_attributes : Ats
  attributes_and : Ats → At → Ats

mutual
  -- an expression
  pub data Ex : Type 0 where
    eName : List ℕ → ℕ → Ex
    eNumber : ℕ → NumberForm → ℕ → Ex
    eLetter : ℤ → ℕ → Ex
    eParen : ℕ → Ex → ℕ → Ex
    eCall : Ex → ℕ → Parts → ℕ → Ex
    eIndex : Ex → ℕ → Ex → ℕ → Ex
    ePostfix : Ex → Crement → ℕ → Ex
    ePrefix : PrefixOp → ℕ → Ex → Ex
    eSizeof : ℕ → ℕ → Words → ℕ → Ex
    eCast : ℕ → Words → ℕ → Ex → Ex
    eBinary : Ex → BinaryOp → ℕ → Ex → Ex
    eCond : Ex → ℕ → Ex → ℕ → Ex → Ex
    eAssign : Ex → AssignOp → ℕ → Ex → Ex
    eComma : Parts → Ex

  -- the parts of a list, each with the comma before it
  pub data Parts : Type 0 where
    no_parts : Parts
    parts_and : Parts → Option ℕ → Ex → Parts

  -- the words of a declaration, of a parameter, of a cast or of `sizeof`
  pub data Words : Type 0 where
    no_words : Words
    words_and : Words → Word → Words

  pub data Word : Type 0 where
    wType : TypeWord → ℕ → Word
    wStorage : StorageWord → ℕ → Word
    wConst : ConstWord → ℕ → Word
    wExtension : ℕ → Word
    wAttribute : At → Word
    wTypedef : List ℕ → ℕ → Word
    wTag : ℕ → List ℕ → ℕ → Word
    wEnum : ℕ → ℕ → Ens → Option ℕ → ℕ → Word
    wTagEnum : ℕ → List ℕ → ℕ → ℕ → Ens → Option ℕ → ℕ → Word

  -- the constants of an enumeration
  pub data Ens : Type 0 where
    no_enumerators : Ens
    plain_and : Ens → Option ℕ → List ℕ → ℕ → Ens
    valued_and : Ens → Option ℕ → List ℕ → ℕ → ℕ → Ex → Ens

-- a name and its offset
pub data Name : Type 0 where
  named : List ℕ → ℕ → Name

-- parameters, each with the comma before it
pub data Params : Type 0 where
  no_params : Params
  params_and : Params → Option ℕ → Words → Option Name → Params

-- with the brackets
pub data Parameters : Type 0 where
  pUnknown : ℕ → ℕ → Parameters
  pVoid : ℕ → ℕ → ℕ → Parameters
  pSome : ℕ → Params → ℕ → Parameters

-- what stands behind a declared name
pub data Form : Type 0 where
  fPlain : Form
  fArray : ℕ → Option Ex → ℕ → Form
  fFunction : Parameters → Form

-- the initial value
pub data Initial : Type 0 where
  iNothing : Initial
  iValue : ℕ → Ex → Initial
  iList : ℕ → ℕ → Parts → Option ℕ → ℕ → Initial

-- the declared names, each with the comma before it
pub data Decs : Type 0 where
  no_declarators : Decs
  declarators_and : Decs → Option ℕ → Name → Form → Ats → Initial → Decs

-- the words, the declared names, and `;`
pub data Declaration : Type 0 where
  declares : Words → Decs → ℕ → Declaration

-- a keyword, `(`, the condition, `)`
pub data Head : Type 0 where
  head : ℕ → ℕ → Ex → ℕ → Head

pub data ForStart : Type 0 where
  forDeclares : Declaration → ForStart
  forExpr : Option Ex → ℕ → ForStart

-- `for`, `(`, how it begins, the condition, `;`, the step, `)`
pub data ForHead : Type 0 where
  for_head : ℕ → ℕ → ForStart → Option Ex → ℕ → Option Ex → ℕ → ForHead

mutual
  -- a statement, or a declaration in a block
  pub data St : Type 0 where
    sDeclaration : Declaration → St
    sBlock : ℕ → Sts → ℕ → St
    sEmpty : ℕ → St
    sExpr : Ex → ℕ → St
    sIf : Head → St → St
    sIfElse : Head → St → ℕ → St → St
    sWhile : Head → St → St
    sSwitch : Head → St → St
    sDo : ℕ → St → Head → ℕ → St
    sFor : ForHead → St → St
    sCase : ℕ → Ex → ℕ → St → St
    sDefault : ℕ → ℕ → St → St
    sLabel : List ℕ → ℕ → ℕ → Ats → St → St
    sGoto : ℕ → List ℕ → ℕ → ℕ → St
    sBreak : ℕ → ℕ → St
    sContinue : ℕ → ℕ → St
    sReturn : ℕ → Option Ex → ℕ → St

  pub data Sts : Type 0 where
    no_statements : Sts
    statements_and : Sts → St → Sts

-- a function's body between its brackets
pub data Body : Type 0 where
  bBlock : ℕ → Sts → ℕ → Body
  bSkipped : ℕ → Raw → ℕ → Body

-- an item of a file
pub data Item : Type 0 where
  tSkipped : Option ℕ → ℕ → Raw → ℕ → Item
  tFunction : Words → Name → Parameters → Ats → Body → Item
  tDeclaration : Declaration → Item
  tEmpty : ℕ → Item

-- the items of a file
pub data Items : Type 0 where
  no_items : Items
  items_and : Items → Item → Items
