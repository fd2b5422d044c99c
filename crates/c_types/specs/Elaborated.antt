-- The typed tree of a source tree: names become numbers, each value gets its kind, and each conversion becomes a node.
use Rattle.std.specs.Prelude.{ℕ, suc, true, false, List, [], ◌∷◌, map, length, Option, Some, None, slice_get, slice_index_or, ℤ, pos}
use Rattle.lv_base.specs.declared.kind.Kind.{Kind}
use Rattle.lv_base.specs.declared.kind.Kind.TheVariants as kind
use Rattle.lv_base.specs.declared.kind.Model.{Model}
use Rattle.c_tree.specs.declared.symbol.BinaryOp.TheVariants as op
use Rattle.c_tree.specs.declared.symbol.AssignOp.TheVariants as to
use Rattle.c_tree.specs.declared.symbol.Crement.TheVariants as by
use Rattle.c_tree.specs.declared.tree.PrefixOp.TheVariants as pre
use Rattle.c_tree.specs.Tree.{Ex, eName, eNumber, eLetter, eParen, eCall, eIndex, ePostfix, ePrefix, eSizeof, eCast, eBinary, eCond, eAssign, eComma, Parts, no_parts, parts_and, named, Initial, iNothing, iValue, iList, Decs, no_declarators, declarators_and, Declaration, declares, Head, head, ForStart, forDeclares, forExpr, ForHead, for_head, St, sDeclaration, sBlock, sEmpty, sExpr, sIf, sIfElse, sWhile, sSwitch, sDo, sFor, sCase, sDefault, sLabel, sGoto, sBreak, sContinue, sReturn, Sts, no_statements, statements_and, Items}
use Rattle.c_run.specs.Operators.{assigned_op}
use Rattle.c_meaning.specs.Kinds.{CType, tKind, promoted, operation_kind, right_kind, number_kind, size_kind, size_of, kind_of}
use Rattle.c_meaning.specs.Bindings.{Env, Entity, anObjectOf, aFunctionOf, aConstantOf, Object, entity_of, object_number, declared_at, kind_of_object, words_type}
use Rattle.c_meaning.specs.Known.{Known, reaches, aborts, draws, known_of}
use Rattle.c_meaning.specs.Types.{type_of}
use Rattle.c_meaning.specs.Value.{base_of, parameters_of}
use Rattle.c_meaning.specs.Tokens.{count_parts}
use Rattle.c_meaning.specs.Constants.{constant_of, or_zero}
use Rattle.c_meaning.specs.Program.{Function, functions_of, env_of, start_values}
use Rattle.c_typed.specs.Tree.{Val, vConstant, vRead, vElement, vWhole, vNothing, vConvert, vDiscard, vNegate, vComplement, vNot, vBinary, vBoth, vEither, vCond, vAssign, vUpdate, vChange, vCall, vReach, vAbort, vDraw, vComma, Goal, gObject, gElement, Vals, no_values, values_and, Step, pDraw, pBegin, pBlock, pEmpty, pEffect, pIf, pIfElse, pWhile, pSwitch, pDo, pFor, pCase, pDefault, pLabel, pGoto, pBreak, pContinue, pReturn, Steps, no_steps, steps_and, Owner, static, local, Program}
use Rattle.c_typed.specs.Tree as t
use Rattle.std.specs.Prelude.{position, bytes_eq}

-- an array that isn't there has no elements
abbrev pub or_none : Env → Option ℕ → ℕ
or_none env None = length env.objects
or_none env (Some object) = object

abbrev pub or_first : Option ℕ → ℕ
or_first None = 0
or_first (Some object) = object

abbrev pub scalar_or_array : ℕ → Kind → Option ℕ → Val
scalar_or_array number k None = vRead k number
scalar_or_array number k (Some n) = vWhole number

abbrev pub object_value : ℕ → Option Object → Val
object_value number None = vRead kind.Int number
object_value number (Some o) = scalar_or_array number o.kind o.length

abbrev pub named_value : Env → Entity → Val
named_value env (anObjectOf number) = object_value number (slice_get env.objects number)
named_value env (aConstantOf v) = vConstant kind.Int v
named_value env _ = vNothing

abbrev pub cast_to : CType → Val → Val
cast_to (tKind k) v = vConvert k v
cast_to _ v = vDiscard v

-- what a draw gives, converted to the declared result
abbrev pub drawn_as : Option Kind → Val → Val
drawn_as (Some k) v = vConvert k v
drawn_as None v = vDiscard v

abbrev pub choice : CType → Val → Val → Val → Val
choice (tKind k) c a b = vCond (Some k) c (vConvert k a) (vConvert k b)
choice _ c a b = vCond None c a b

module _ (env : Env) (model : Model) (bodies : List (List ℕ)) where
  abbrev pub kind_at : Ex → Kind
  kind_at e = kind_of (type_of env model e)

  abbrev pub called : Option Kind → ℕ → ℕ → Option ℕ → Vals → Val
  called result at bracket None vs = vAbort
  called result at bracket (Some f) vs = vCall result at bracket f vs

  abbrev pub called_known : Option Known → Option Kind → List ℕ → ℕ → ℕ → Vals → Val
  called_known (Some reaches) result n at bracket vs = vReach at
  called_known (Some aborts) result n at bracket vs = vAbort
  called_known (Some (draws k)) result n at bracket vs = drawn_as result (vDraw k)
  called_known None result n at bracket vs = called result at bracket (position (λ m. bytes_eq m n) bodies) vs

  abbrev pub called_entity : Entity → List ℕ → ℕ → ℕ → Vals → Val
  called_entity (aFunctionOf result parameters) n at bracket vs = called_known (known_of n) result n at bracket vs
  called_entity _ n at bracket vs = vAbort

  abbrev pub called_name : Ex → ℕ → Vals → Val
  called_name (eName n at) bracket vs = called_entity (entity_of env n at) n at bracket vs
  called_name f bracket vs = vAbort

  abbrev mutual
    pub value : Ex → Val
    value (eName n at) = named_value env (entity_of env n at)
    value (eNumber v f at) = vConstant (number_kind model v f) (pos v)
    value (eLetter v at) = vConstant kind.Int v
    value (eParen a e b) = value e
    value (eCall f a es b) = called_name f a (arguments (parameters_of env f) es)
    value (eIndex a x i y) = vElement (kind_at (eIndex a x i y)) x (or_none env (base_of env a)) (value i)
    value (ePostfix e c at) = vChange false c (kind_at e) at (goal e)
    value (ePrefix pre.Increment at e) = vChange true by.Increment (kind_at e) at (goal e)
    value (ePrefix pre.Decrement at e) = vChange true by.Decrement (kind_at e) at (goal e)
    value (ePrefix pre.Plus at e) = vConvert (promoted (kind_at e)) (value e)
    value (ePrefix pre.Minus at e) = vNegate (promoted (kind_at e)) at (vConvert (promoted (kind_at e)) (value e))
    value (ePrefix pre.Complement at e) = vComplement (promoted (kind_at e)) at (vConvert (promoted (kind_at e)) (value e))
    value (ePrefix pre.Not at e) = vNot (value e)
    value (ePrefix pre.Extension at e) = value e
    value (ePrefix pre.Sizeof at e) = vConstant (size_kind model) (pos (size_of model (type_of env model e)))
    value (eSizeof at a ws b) = vConstant (size_kind model) (pos (size_of model (words_type env ws)))
    value (eCast a ws b e) = cast_to (words_type env ws) (value e)
    value (eBinary a op.AndAlso at b) = vBoth (value a) (value b)
    value (eBinary a op.OrElse at b) = vEither (value a) (value b)
    value (eBinary a o at b) =
        vBinary o (operation_kind model o (kind_at a) (kind_at b)) at (vConvert (operation_kind model o (kind_at a) (kind_at b)) (value a)) (vConvert (right_kind model o (kind_at a) (kind_at b)) (value b))
    value (eCond c x a y b) = choice (type_of env model (eCond c x a y b)) (value c) (value a) (value b)
    value (eAssign a to.Plain at b) = vAssign (kind_at a) at (goal a) (vConvert (kind_at a) (value b))
    value (eAssign a o at b) =
        vUpdate (assigned_op o) (operation_kind model (assigned_op o) (kind_at a) (kind_at b)) (kind_at a) at (goal a) (vConvert (right_kind model (assigned_op o) (kind_at a) (kind_at b)) (value b))
    value (eComma no_parts) = vNothing
    value (eComma (parts_and es c e)) = vComma (values es) (value e)

    pub values : Parts → Vals
    values no_parts = no_values
    values (parts_and es c e) = values_and (values es) (value e)

    -- each argument is converted to its parameter's kind
    pub arguments : List Kind → Parts → Vals
    arguments ks no_parts = no_values
    arguments ks (parts_and es c e) = values_and (arguments ks es) (vConvert (slice_index_or ks (count_parts es) kind.Int) (value e))

    pub goal : Ex → Goal
    goal (eParen a e b) = goal e
    goal (ePrefix pre.Extension at e) = goal e
    goal (eName n at) = gObject (or_first (object_number (entity_of env n at)))
    goal (eIndex a x i y) = gElement x (or_none env (base_of env a)) (value i)
    goal _ = gObject 0

  -- ---- Declarations

  abbrev pub values_as : Kind → Parts → Vals
  values_as k no_parts = no_values
  values_as k (parts_and es c e) = values_and (values_as k es) (vConvert k (value e))

  abbrev pub object_kind : ℕ → Kind
  object_kind object = kind_of_object (slice_get env.objects object)

  abbrev pub beginning : Steps → Initial → Option ℕ → Steps
  beginning ss i None = ss
  beginning ss iNothing (Some object) = steps_and ss (pDraw object)
  beginning ss (iValue at e) (Some object) = steps_and ss (pBegin object (values_and no_values (vConvert (object_kind object) (value e))))
  beginning ss (iList at a es c b) (Some object) = steps_and ss (pBegin object (values_as (object_kind object) es))

  -- behind some steps, those of the declared objects
  abbrev pub declaring : Steps → Decs → Steps
  declaring ss no_declarators = ss
  declaring ss (declarators_and ds c (named n at) f ats i) = beginning (declaring ss ds) i (object_number (declared_at env at))

  abbrev pub declared : Steps → Declaration → Steps
  declared ss (declares ws ds b) = declaring ss ds

  -- ---- Statements

  abbrev pub option_value : Option Ex → Option Val
  option_value None = None
  option_value (Some e) = Some (value e)

  abbrev pub condition : Head → Val
  condition (head at a e b) = value e

  abbrev pub keyword : Head → ℕ
  keyword (head at a e b) = at

  abbrev pub switch_kind : Head → Kind
  switch_kind (head at a e b) = promoted (kind_at e)

  abbrev pub effect : Option Ex → Steps
  effect None = no_steps
  effect (Some e) = steps_and no_steps (pEffect (value e))

  abbrev pub for_start : ForStart → Steps
  for_start (forDeclares d) = declared no_steps d
  for_start (forExpr e at) = effect e

  abbrev pub for_step : ForHead → Step → Step
  for_step (for_head at a start test x step b) s = pFor at (for_start start) (option_value test) (option_value step) s

  abbrev pub returned : Option Kind → Option Ex → Option Val
  returned result None = None
  returned None (Some e) = Some (value e)
  returned (Some k) (Some e) = Some (vConvert k (value e))

  module _ (result : Option Kind) where
    abbrev mutual
      pub step : St → Step
      step (sDeclaration d) = pBlock (declared no_steps d)
      step (sBlock a ss b) = pBlock (steps ss)
      step (sEmpty at) = pEmpty
      step (sExpr e at) = pEffect (value e)
      step (sIf h s) = pIf (condition h) (step s)
      step (sIfElse h s at x) = pIfElse (condition h) (step s) (step x)
      step (sWhile h s) = pWhile (keyword h) (condition h) (step s)
      step (sSwitch h s) = pSwitch (keyword h) (switch_kind h) (vConvert (switch_kind h) (condition h)) (step s)
      step (sDo at s h b) = pDo at (step s) (condition h)
      step (sFor h s) = for_step h (step s)
      step (sCase at e b s) = pCase at (or_zero (constant_of env model e)) (step s)
      step (sDefault at b s) = pDefault at (step s)
      step (sLabel n at b ats s) = pLabel n at (step s)
      step (sGoto at n x b) = pGoto at n x
      step (sBreak at b) = pBreak at
      step (sContinue at b) = pContinue at
      step (sReturn at e b) = pReturn at (returned result e)

      -- the declarations of a block are steps of it
      pub steps : Sts → Steps
      steps no_statements = no_steps
      steps (statements_and ss (sDeclaration d)) = declared (steps ss) d
      steps (statements_and ss s) = steps_and (steps ss) (step s)

-- ---- Programs

abbrev pub owner_of : Option ℕ → Owner
owner_of None = static
owner_of (Some f) = local f

abbrev pub length_of : Option ℕ → ℕ
length_of None = 0
length_of (Some n) = n

-- the values of an object that lives as long as the program
abbrev pub first_of : Option ℕ → List ℤ → List ℤ
first_of None vs = vs
first_of (Some f) vs = []

abbrev pub objects_from : Env → Model → ℕ → List Object → List t.Object
objects_from env model number [] = []
objects_from env model number (o ∷ os) =
    (record { name = o.name; at = o.at; kind = o.kind; length = length_of o.length; owner = owner_of o.owner; first = first_of o.owner (start_values env model number o) }) ∷ objects_from env model (suc number) os

abbrev pub function_of : Env → Model → List (List ℕ) → Function → t.Function
function_of env model bodies f = record { name = f.name; at = f.at; result = f.result; parameters = f.parameters; body = steps env model bodies f.result f.body }

abbrev pub program_of : Env → Model → List Function → Program
program_of env model functions =
    record { model = model; objects = objects_from env model 0 env.objects; functions = map (function_of env model (map (λ f. f.name) functions)) functions }

-- the typed tree of a source
abbrev pub elaborated : Items → Model → Program
elaborated items model = let env = env_of items model in program_of env model (functions_of env items)
