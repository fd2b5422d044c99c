-- Typed trees, without where they lie in memory. A list has its last element outermost.
use Rattle.std.specs.Prelude.{ℕ, ℤ, Bool, List, Option}
use Rattle.lv_base.specs.declared.kind.Kind.{Kind}
use Rattle.lv_base.specs.declared.kind.Model.{Model}
use Rattle.c_tree.specs.declared.symbol.BinaryOp.{BinaryOp}
use Rattle.c_tree.specs.declared.symbol.Crement.{Crement}

mutual
  -- a value
  pub data Val : Type 0 where
    vConstant : Kind → ℤ → Val
    vRead : Kind → ℕ → Val
    vElement : Kind → ℕ → ℕ → Val → Val
    vWhole : ℕ → Val
    vNothing : Val
    vConvert : Kind → Val → Val
    vDiscard : Val → Val
    vNegate : Kind → ℕ → Val → Val
    vComplement : Kind → ℕ → Val → Val
    vNot : Val → Val
    vBinary : BinaryOp → Kind → ℕ → Val → Val → Val
    vBoth : Val → Val → Val
    vEither : Val → Val → Val
    vCond : Option Kind → Val → Val → Val → Val
    vAssign : Kind → ℕ → Goal → Val → Val
    vUpdate : BinaryOp → Kind → Kind → ℕ → Goal → Val → Val
    vChange : Bool → Crement → Kind → ℕ → Goal → Val
    vCall : Option Kind → ℕ → ℕ → ℕ → Vals → Val
    vReach : ℕ → Val
    vAbort : Val
    vDraw : Kind → Val
    vComma : Vals → Val → Val

  -- what is assigned to
  pub data Goal : Type 0 where
    gObject : ℕ → Goal
    gElement : ℕ → ℕ → Val → Goal

  pub data Vals : Type 0 where
    no_values : Vals
    values_and : Vals → Val → Vals

mutual
  -- a statement, or the declaration of one object
  pub data Step : Type 0 where
    pDraw : ℕ → Step
    pBegin : ℕ → Vals → Step
    pBlock : Steps → Step
    pEmpty : Step
    pEffect : Val → Step
    pIf : Val → Step → Step
    pIfElse : Val → Step → Step → Step
    pWhile : ℕ → Val → Step → Step
    pSwitch : ℕ → Kind → Val → Step → Step
    pDo : ℕ → Step → Val → Step
    pFor : ℕ → Steps → Option Val → Option Val → Step → Step
    pCase : ℕ → ℤ → Step → Step
    pDefault : ℕ → Step → Step
    pLabel : List ℕ → ℕ → Step → Step
    pGoto : ℕ → List ℕ → ℕ → Step
    pBreak : ℕ → Step
    pContinue : ℕ → Step
    pReturn : ℕ → Option Val → Step

  pub data Steps : Type 0 where
    no_steps : Steps
    steps_and : Steps → Step → Steps

-- where an object lives
pub data Owner : Type 0 where
  static : Owner
  local : (function : ℕ) → Owner

-- length 0 is a scalar
pub record Object : Type 0 where
  pub name : List ℕ
  pub at : ℕ
  pub kind : Kind
  pub length : ℕ
  pub owner : Owner
  pub first : List ℤ

pub record Function : Type 0 where
  pub name : List ℕ
  pub at : ℕ
  pub result : Option Kind
  pub parameters : List ℕ
  pub body : Steps

pub record Program : Type 0 where
  pub model : Model
  pub objects : List Object
  pub functions : List Function
