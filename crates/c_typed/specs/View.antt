-- The program's typed trees, without where they lie in memory.
use Rattle.std.specs.Prelude.{List, [], ◌∷◌, map, Option, None, Some, Box}
use Rattle.std.proofs.Common.{Global}
use Rattle.lv_base.specs.declared.kind.Model.{Model}
use Rattle.c_typed.specs.declared.tree.Target.{Target}
use Rattle.c_typed.specs.declared.tree.Target.TheVariants as tg
use Rattle.c_typed.specs.declared.tree.Value.{Value, Row_of-Value, end_of-Value, more_of-Value}
use Rattle.c_typed.specs.declared.tree.Value.TheVariants as va
use Rattle.c_typed.specs.declared.tree.Step.{Step, Row_of-Step, end_of-Step, more_of-Step}
use Rattle.c_typed.specs.declared.tree.Step.TheVariants as st
use Rattle.c_typed.specs.declared.tree.Owner.{Owner}
use Rattle.c_typed.specs.declared.tree.Owner.TheVariants as ow
use Rattle.c_typed.specs.declared.tree.Object.{Object}
use Rattle.c_typed.specs.declared.tree.Function.{Function}
use Rattle.c_typed.specs.Tree as t

abbrev mutual
  pub value : Value → t.Val
  value (va.Constant k v) = t.vConstant k v
  value (va.Read k x) = t.vRead k x
  value (va.Element' k at x p i) = t.vElement k at x (value i)
  value (va.Whole x) = t.vWhole x
  value va.Nothing = t.vNothing
  value (va.Convert' k p v) = t.vConvert k (value v)
  value (va.Discard' p v) = t.vDiscard (value v)
  value (va.Negate' k at p v) = t.vNegate k at (value v)
  value (va.Complement' k at p v) = t.vComplement k at (value v)
  value (va.Not' p v) = t.vNot (value v)
  value (va.Binary' o k at p a q b) = t.vBinary o k at (value a) (value b)
  value (va.Both' p a q b) = t.vBoth (value a) (value b)
  value (va.Either' p a q b) = t.vEither (value a) (value b)
  value (va.Cond' k p c q a r b) = t.vCond k (value c) (value a) (value b)
  value (va.Assign' k at p g q v) = t.vAssign k at (target g) (value v)
  value (va.Update' o k l at p g q v) = t.vUpdate o k l at (target g) (value v)
  value (va.Change' b o k at p g) = t.vChange b o k at (target g)
  value (va.Call' k at x f _ vs) = t.vCall k at x f (value_row t.no_values vs)
  value (va.Reach at) = t.vReach at
  value va.Abort = t.vAbort
  value (va.Draw k) = t.vDraw k
  value (va.Comma' _ vs p v) = t.vComma (value_row t.no_values vs) (value v)

  pub target : Target → t.Goal
  target (tg.Object x) = t.gObject x
  target (tg.Element' at x p i) = t.gElement at x (value i)

  pub value_row : {n : _} → t.Vals → Row_of-Value n → t.Vals
  value_row vs end_of-Value = vs
  value_row vs (more_of-Value v rest) = value_row (t.values_and vs (value v)) rest

abbrev pub option_value : Option (Box Value Global) → Option t.Val
option_value None = None
option_value (Some v) = Some (value v.value)

abbrev pub values_behind : t.Vals → List Value → t.Vals
values_behind vs [] = vs
values_behind vs (x ∷ xs) = values_behind (t.values_and vs (value x)) xs

abbrev pub values_of : List Value → t.Vals
values_of xs = values_behind t.no_values xs

abbrev mutual
  pub step : Step → t.Step
  step (st.Draw x) = t.pDraw x
  step (st.Begin x vs) = t.pBegin x (values_of vs.items)
  step (st.Block' _ ss) = t.pBlock (step_row t.no_steps ss)
  step st.Empty = t.pEmpty
  step (st.Effect v) = t.pEffect (value v.value)
  step (st.If' v p s) = t.pIf (value v.value) (step s)
  step (st.IfElse' v p a q b) = t.pIfElse (value v.value) (step a) (step b)
  step (st.While' at v p s) = t.pWhile at (value v.value) (step s)
  step (st.Switch' at k v p s) = t.pSwitch at k (value v.value) (step s)
  step (st.Do' at p s v) = t.pDo at (step s) (value v.value)
  step (st.For' at _ ss v w p s) = t.pFor at (step_row t.no_steps ss) (option_value v) (option_value w) (step s)
  step (st.Case' at v p s) = t.pCase at v (step s)
  step (st.Default' at p s) = t.pDefault at (step s)
  step (st.Label' n at p s) = t.pLabel n at (step s)
  step (st.Goto at n b) = t.pGoto at n b
  step (st.Break at) = t.pBreak at
  step (st.Continue at) = t.pContinue at
  step (st.Return at v) = t.pReturn at (option_value v)

  pub step_row : {n : _} → t.Steps → Row_of-Step n → t.Steps
  step_row ss end_of-Step = ss
  step_row ss (more_of-Step s rest) = step_row (t.steps_and ss (step s)) rest

abbrev pub steps_behind : t.Steps → List Step → t.Steps
steps_behind ss [] = ss
steps_behind ss (x ∷ xs) = steps_behind (t.steps_and ss (step x)) xs

abbrev pub steps_of : List Step → t.Steps
steps_of xs = steps_behind t.no_steps xs

abbrev pub owner_of : Owner → t.Owner
owner_of ow.Static = t.static
owner_of (ow.Local f) = t.local f

abbrev pub object_of : Object → t.Object
object_of o = record { name = o.name; at = o.at; kind = o.kind; length = o.length; owner = owner_of o.owner; first = o.first.items }

abbrev pub function_of : Function → t.Function
function_of f = record { name = f.name; at = f.at; result = f.result; parameters = f.parameters.items; body = steps_of f.body.items }

abbrev pub program_of : Model → List Object → List Function → t.Program
program_of model objects functions = record { model = model; objects = map object_of objects; functions = map function_of functions }
