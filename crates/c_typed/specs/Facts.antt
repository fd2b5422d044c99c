-- The facts that each typed tree keeps: its numbers are there, and each value has the kind that its place asks for.
use Rattle.std.specs.Prelude.{◌≡◌, ℕ, ◌+◌, ◌<◌, ◌≤◌, reverse, Bool, true, false, List, [], ◌∷◌, length, All, filter, Option, Some, None, slice_get, codes, bytes_eq}
use Rattle.lv_base.specs.declared.kind.Kind.{Kind}
use Rattle.lv_base.specs.declared.kind.Kind.TheVariants as kind
use Rattle.lv_base.specs.declared.kind.Model.{Model}
use Rattle.lv_base.specs.Integers.{InRange, is_promoted}
use Rattle.c_tree.specs.declared.symbol.BinaryOp.{BinaryOp}
use Rattle.c_tree.specs.declared.symbol.BinaryOp.TheVariants as op
use Rattle.c_run.specs.Operators.{is_logical}
use Rattle.c_typed.specs.Tree.{Val, vConstant, vRead, vElement, vWhole, vNothing, vConvert, vDiscard, vNegate, vComplement, vNot, vBinary, vBoth, vEither, vCond, vAssign, vUpdate, vChange, vCall, vReach, vAbort, vDraw, vComma, Goal, gObject, gElement, Vals, no_values, values_and, Step, pDraw, pBegin, pBlock, pEmpty, pEffect, pIf, pIfElse, pWhile, pSwitch, pDo, pFor, pCase, pDefault, pLabel, pGoto, pBreak, pContinue, pReturn, Steps, no_steps, steps_and, Owner, static, local, Object, Function, Program}
use Rattle.c_typed.specs.Run.{size_of}

abbrev pub is_shift : BinaryOp → Bool
is_shift op.ShiftLeft = true
is_shift op.ShiftRight = true
is_shift _ = false

-- the operators whose result is an `int` of 0 or 1
abbrev pub is_comparison : BinaryOp → Bool
is_comparison op.Equal = true
is_comparison op.NotEqual = true
is_comparison op.Less = true
is_comparison op.Greater = true
is_comparison op.LessEqual = true
is_comparison op.GreaterEqual = true
is_comparison _ = false

abbrev pub when : Bool → Kind → Kind → Kind
when true a b = a
when false a b = b

-- the kind of a value; none where it has no value
abbrev pub kind_of : Val → Option Kind
kind_of (vConstant k v) = Some k
kind_of (vRead k object) = Some k
kind_of (vElement k at object i) = Some k
kind_of (vWhole object) = None
kind_of vNothing = None
kind_of (vConvert k e) = Some k
kind_of (vDiscard e) = None
kind_of (vNegate k at e) = Some k
kind_of (vComplement k at e) = Some k
kind_of (vNot e) = Some kind.Int
kind_of (vBinary o k at a b) = Some (when (is_comparison o) kind.Int k)
kind_of (vBoth a b) = Some kind.Int
kind_of (vEither a b) = Some kind.Int
kind_of (vCond k t a b) = k
kind_of (vAssign k at g e) = Some k
kind_of (vUpdate o k l at g e) = Some l
kind_of (vChange before by k at g) = Some k
kind_of (vCall result at x f es) = result
kind_of (vReach at) = None
kind_of vAbort = None
kind_of (vDraw k) = Some k
kind_of (vComma es e) = kind_of e

abbrev pub kinds_of : Vals → List (Option Kind)
kinds_of no_values = []
kinds_of (values_and es e) = kind_of e ∷ kinds_of es

-- the same from the other end
abbrev pub Reversed : List (Option Kind) → List (Option Kind) → Type 0
Reversed xs ys = reverse xs ≡ ys

-- a value, of whatever kind
abbrev pub HasKind : Val → Type 0
HasKind e = (k : Kind) × (kind_of e ≡ Some k)

-- a value of a promoted kind stands at the right of a shift
abbrev pub RightFits : BinaryOp → Kind → Option Kind → Type 0
RightFits o k None = ⊥
RightFits o k (Some l) = elim (is_shift o) [ true ↦ is_promoted l ≡ true | false ↦ l ≡ k ]

module _ (model : Model) (objects : List Object) (functions : List Function) where
  -- the object is there, a scalar of this kind, or an array of it
  pub record IsScalar (object : ℕ) (k : Kind) : Type 0 where
    pub told : Object
    pub there : slice_get objects object ≡ Some told
    pub kind : told.kind ≡ k
    pub scalar : told.length ≡ 0

  pub record IsArray (object : ℕ) (k : Kind) : Type 0 where
    pub told : Object
    pub there : slice_get objects object ≡ Some told
    pub kind : told.kind ≡ k
    pub elements : 0 < told.length

  abbrev pub parameter_kinds : List ℕ → List (Option Kind)
  parameter_kinds [] = []
  parameter_kinds (p ∷ ps) = elim (slice_get objects p) [ None ↦ None | Some o ↦ Some o.kind ] ∷ parameter_kinds ps

  -- the function is there, has this result, and parameters of these kinds, the last one first
  pub record IsCalled (function : ℕ) (result : Option Kind) (kinds : List (Option Kind)) : Type 0 where
    pub told : Function
    pub there : slice_get functions function ≡ Some told
    pub result_is : told.result ≡ result
    pub arguments : Reversed (parameter_kinds told.parameters) kinds

  abbrev mutual
    pub Fits : Val → Type 0
    Fits (vConstant k v) = InRange k model v
    Fits (vRead k object) = IsScalar object k
    Fits (vElement k at object i) = IsArray object k × HasKind i × Fits i
    Fits (vWhole object) = (k : Kind) × IsArray object k
    Fits vNothing = Unit {0}
    Fits (vConvert k e) = HasKind e × Fits e
    Fits (vDiscard e) = Fits e
    Fits (vNegate k at e) = (is_promoted k ≡ true) × (kind_of e ≡ Some k) × Fits e
    Fits (vComplement k at e) = (is_promoted k ≡ true) × (kind_of e ≡ Some k) × Fits e
    Fits (vNot e) = HasKind e × Fits e
    Fits (vBinary o k at a b) = (is_promoted k ≡ true) × (is_logical o ≡ false) × (kind_of a ≡ Some k) × RightFits o k (kind_of b) × Fits a × Fits b
    Fits (vBoth a b) = HasKind a × HasKind b × Fits a × Fits b
    Fits (vEither a b) = HasKind a × HasKind b × Fits a × Fits b
    Fits (vCond k t a b) = HasKind t × (kind_of a ≡ k) × (kind_of b ≡ k) × Fits t × Fits a × Fits b
    Fits (vAssign k at g e) = GoalFits k g × (kind_of e ≡ Some k) × Fits e
    Fits (vUpdate o k l at g e) = (is_promoted k ≡ true) × (is_logical o ≡ false) × (is_comparison o ≡ false) × GoalFits l g × RightFits o k (kind_of e) × Fits e
    Fits (vChange before by k at g) = GoalFits k g
    Fits (vCall result at x f es) = IsCalled f result (kinds_of es) × AllFit es
    Fits (vReach at) = Unit {0}
    Fits vAbort = Unit {0}
    Fits (vDraw k) = Unit {0}
    Fits (vComma es e) = AllFit es × Fits e

    pub AllFit : Vals → Type 0
    AllFit no_values = Unit {0}
    AllFit (values_and es e) = AllFit es × Fits e

    pub GoalFits : Kind → Goal → Type 0
    GoalFits k (gObject object) = IsScalar object k
    GoalFits k (gElement at object i) = IsArray object k × HasKind i × Fits i

  abbrev pub OptionFits : Option Val → Type 0
  OptionFits None = Unit {0}
  OptionFits (Some e) = Fits e

  abbrev pub TestFits : Option Val → Type 0
  TestFits None = Unit {0}
  TestFits (Some e) = HasKind e × Fits e

  abbrev pub count : Vals → ℕ
  count no_values = 0
  count (values_and es e) = count es + 1

  -- each value has this kind
  abbrev pub AllOf : Kind → Vals → Type 0
  AllOf k no_values = Unit {0}
  AllOf k (values_and es e) = AllOf k es × (kind_of e ≡ Some k) × Fits e

  -- an object of this function has no more initial values than elements, each of its kind
  pub record Begins (function object : ℕ) (es : Vals) : Type 0 where
    pub told : Object
    pub there : slice_get objects object ≡ Some told
    pub owned : told.owner ≡ local function
    pub enough : count es ≤ size_of (Some told)
    pub some : 0 < count es
    pub values : AllOf told.kind es

  pub record Drawn (function object : ℕ) : Type 0 where
    pub told : Object
    pub there : slice_get objects object ≡ Some told
    pub owned : told.owner ≡ local function

  -- in a void function a returned value, which is a fault, may be of any kind
  abbrev pub ReturnFits : Option Kind → Option Val → Type 0
  ReturnFits result None = Unit {0}
  ReturnFits None (Some e) = Fits e
  ReturnFits (Some k) (Some e) = (kind_of e ≡ Some k) × Fits e

  module _ (function : ℕ) (result : Option Kind) where
    abbrev mutual
      pub StepFits : Step → Type 0
      StepFits (pDraw object) = Drawn function object
      StepFits (pBegin object es) = Begins function object es
      StepFits (pBlock ss) = StepsFit ss
      StepFits pEmpty = Unit {0}
      StepFits (pEffect e) = Fits e
      StepFits (pIf e s) = HasKind e × Fits e × StepFits s
      StepFits (pIfElse e s t) = HasKind e × Fits e × StepFits s × StepFits t
      StepFits (pWhile at e s) = HasKind e × Fits e × StepFits s
      StepFits (pSwitch at k e s) = (is_promoted k ≡ true) × (kind_of e ≡ Some k) × Fits e × StepFits s
      StepFits (pDo at s e) = StepFits s × HasKind e × Fits e
      StepFits (pFor at start test step s) = StepsFit start × TestFits test × OptionFits step × StepFits s
      StepFits (pCase at v s) = StepFits s
      StepFits (pDefault at s) = StepFits s
      StepFits (pLabel n at s) = StepFits s
      StepFits (pGoto at n x) = Unit {0}
      StepFits (pBreak at) = Unit {0}
      StepFits (pContinue at) = Unit {0}
      StepFits (pReturn at e) = ReturnFits result e

      pub StepsFit : Steps → Type 0
      StepsFit no_steps = Unit {0}
      StepsFit (steps_and ss s) = StepsFit ss × StepFits s

  -- a static object has for each element one value of its kind; one of a function has none
  abbrev pub FirstFits : Object → Owner → Type 0
  FirstFits o static = (length o.first ≡ size_of (Some o)) × All (InRange o.kind model) o.first
  FirstFits o (local f) = (o.first ≡ []) × (f < length functions)

  abbrev pub ObjectFits : Object → Type 0
  ObjectFits o = FirstFits o o.owner

  -- a parameter is a scalar of its function
  pub record IsParameter (function object : ℕ) : Type 0 where
    pub told : Object
    pub there : slice_get objects object ≡ Some told
    pub owned : told.owner ≡ local function
    pub scalar : told.length ≡ 0

  pub record FunctionFits (number : ℕ) (f : Function) : Type 0 where
    pub parameters : All (IsParameter number) f.parameters
    pub body : StepsFit number f.result f.body

  abbrev pub FunctionsFit : ℕ → List Function → Type 0
  FunctionsFit number [] = Unit {0}
  FunctionsFit number (f ∷ fs) = FunctionFits number f × FunctionsFit (number + 1) fs

abbrev pub is_main : Function → Bool
is_main f = bytes_eq f.name (codes "main")

-- exactly one function is `main`, without parameters and with the result `int`
pub record HasMain (functions : List Function) : Type 0 where
  pub main : Function
  pub only : filter is_main functions ≡ main ∷ []
  pub result : main.result ≡ Some kind.Int
  pub parameters : main.parameters ≡ []

pub record IsTyped (program : Program) : Type 0 where
  pub objects : All (ObjectFits program.model program.objects program.functions) program.objects
  pub functions : FunctionsFit program.model program.objects program.functions 0 program.functions
  pub main : HasMain program.functions
