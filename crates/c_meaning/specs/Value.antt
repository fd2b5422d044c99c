-- Evaluation of expressions, from left to right (C11 6.5; the order is left open by 6.5 p3).
use Rattle.std.specs.Prelude.{slice_index_or, ℕ, if◌then◌else◌, List, [], ◌∷◌, ◌++◌, Option, Some, None, bytes_eq, position, ℤ, pos, negsuc}
use Rattle.lv_base.specs.declared.kind.Kind.{Kind}
use Rattle.lv_base.specs.declared.kind.Kind.TheVariants as kind
use Rattle.lv_base.specs.declared.kind.Model.{Model}
use Rattle.lv_base.specs.declared.kind.Op.TheVariants as arith
use Rattle.lv_base.specs.declared.fault.ErrorKind.TheVariants as error
use Rattle.lv_base.specs.Integers.{converted, truth, is_zero}
use Rattle.c_tree.specs.declared.symbol.BinaryOp.{BinaryOp}
use Rattle.c_tree.specs.declared.symbol.BinaryOp.TheVariants as op
use Rattle.c_tree.specs.declared.symbol.AssignOp.TheVariants as to
use Rattle.c_tree.specs.declared.symbol.Crement.{Crement}
use Rattle.c_tree.specs.declared.symbol.Crement.TheVariants as by
use Rattle.c_tree.specs.declared.tree.PrefixOp.{PrefixOp}
use Rattle.c_tree.specs.declared.tree.PrefixOp.TheVariants as pre
use Rattle.c_tree.specs.Tree.{Ex, eName, eNumber, eLetter, eParen, eCall, eIndex, ePostfix, ePrefix, eSizeof, eCast, eBinary, eCond, eAssign, eComma, Parts, no_parts, parts_and}
use Rattle.c_run.specs.Run.{Run, give, ◌>>=◌, ◌>>◌, choose, fail, stop, Ended, Element, read, write, scalar, located, draw, Compute, computed, is_true}
use Rattle.c_run.specs.Loops.{Calls}
use Rattle.c_run.specs.Operators.{Use, used, dropped, called_value, op_of, is_turned, is_negated, negated, assigned_op, crement_op}
use Rattle.c_meaning.specs.Kinds.{CType, tKind, promoted, operation_kind, right_kind, size_of, kind_of, as_type, result_type}
use Rattle.c_meaning.specs.Tokens.{count_parts}
use Rattle.c_meaning.specs.Bindings.{Env, Entity, anObjectOf, aFunctionOf, aConstantOf, entity_of, object_number, count_of, words_type}
use Rattle.c_meaning.specs.Known.{Known, reaches, aborts, draws, known_of}
use Rattle.c_meaning.specs.Types.{type_of}

-- What a meaning is asked in: the declarations, the data model, how a program computes, the inputs, what calls of functions
-- with a body mean, and the names of these functions in their order.
pub record Context : Type 0 where
  pub env : Env
  pub model : Model
  pub compute : Compute
  pub inputs : List ℤ
  pub call : Calls
  pub bodies : List (List ℕ)

-- ---- Calls (C11 6.5.2.2)

-- the parameters' kinds of what is called
abbrev pub entity_parameters : Entity → List Kind
entity_parameters (aFunctionOf result parameters) = parameters
entity_parameters _ = []

abbrev pub parameters_of : Env → Ex → List Kind
parameters_of env (eName n at) = entity_parameters (entity_of env n at)
parameters_of env _ = []

-- the object of a scalar or an array, through round brackets and `__extension__`
abbrev pub base_of : Env → Ex → Option ℕ
base_of env (eName n at) = object_number (entity_of env n at)
base_of env (eParen a e b) = base_of env e
base_of env (ePrefix pre.Extension at e) = base_of env e
base_of env _ = None

module _ (c : Context) where
  abbrev pub to_kind : Kind → ℤ → ℤ
  to_kind k v = converted k c.model v

  abbrev pub typed : Ex → CType
  typed e = type_of c.env c.model e

  abbrev pub kind_at : Ex → Kind
  kind_at e = kind_of (typed e)

  -- an operation in a kind, on values that are converted to it first; the right side of a shift is promoted alone
  abbrev pub applied : ℕ → BinaryOp → Kind → Kind → ℤ → ℤ → Run ℤ
  applied at o k l x y =
      let left = to_kind (operation_kind c.model o k l) x in
      let right = to_kind (right_kind c.model o k l) y in do
        v ← computed at (if is_turned o then c.compute (op_of o) (operation_kind c.model o k l) right left else c.compute (op_of o) (operation_kind c.model o k l) left right)
        give (negated (is_negated o) v)

  -- C11 6.5.3.3: `-` is a difference from 0, and `~` turns each bit
  abbrev pub prefixed : ℕ → PrefixOp → Kind → ℤ → Run ℤ
  prefixed at pre.Minus k v = computed at (c.compute arith.Sub (promoted k) (pos 0) (to_kind (promoted k) v))
  prefixed at pre.Complement k v = computed at (c.compute arith.Xor (promoted k) (to_kind (promoted k) v) (to_kind (promoted k) (negsuc 0)))
  prefixed at pre.Not k v = give (truth (is_zero v))
  prefixed at pre.Plus k v = give (to_kind (promoted k) v)
  prefixed at o k v = give v

  -- `++` and `--` compute in the promoted kind and convert back; the postfix forms give the old value (C11 6.5.2.4, 6.5.3.1)
  abbrev pub stepped : ℕ → Crement → Kind → Element → ℤ → Run ℤ
  stepped at by k e v = do
    new ← computed at (c.compute (crement_op by) (promoted k) (to_kind (promoted k) v) (pos 1))
    write e (to_kind k new)

  -- an object, an array whose value is not used, or an enumeration's constant
  abbrev pub named_value : Entity → Run ℤ
  named_value (anObjectOf number) = read (scalar number)
  named_value (aConstantOf v) = give v
  named_value _ = give (pos 0)

  abbrev pub element_at : ℕ → Option ℕ → ℤ → Run Element
  element_at at None v = fail error.Index at
  element_at at (Some object) v = located at object (count_of c.env object) v

  abbrev pub target_at : Option ℕ → Run Element
  target_at (Some object) = give (scalar object)
  target_at None = give (scalar 0)

  -- a call of a function that has neither a body nor a meaning of its own is refused by the rules
  abbrev pub call_body : Use → Option Kind → ℕ → Option ℕ → List ℤ → Run ℤ
  call_body u result at None vs = stop Ended
  call_body u result at (Some number) vs = do
    v ← c.call number at vs
    called_value u result at v

  abbrev pub function_number : List ℕ → Option ℕ
  function_number name = position (λ n. bytes_eq n name) c.bodies

  -- a call of `reach_error` takes no turn, and its body is not entered
  abbrev pub call_known : Use → ℕ → List ℕ → Option Kind → Option Known → List ℤ → Run ℤ
  call_known u at name result (Some reaches) vs = fail error.Reach at
  call_known u at name result (Some aborts) vs = stop Ended
  call_known u at name result (Some (draws k)) vs = do
    v ← draw c.inputs c.model k
    give (as_type c.model (result_type result) v)
  call_known u at name result None vs = call_body u result at (function_number name) vs

  -- the arguments are bound after all of them were evaluated
  abbrev pub call_named : Use → Entity → ℕ → List ℕ → List ℤ → Run ℤ
  call_named u (aFunctionOf result parameters) at name vs = call_known u at name result (known_of name) vs
  call_named u _ at name vs = stop Ended

  abbrev pub call_of : Use → Ex → List ℤ → Run ℤ
  call_of u (eName n at) vs = call_named u (entity_of c.env n at) at n vs
  call_of u _ vs = stop Ended

  -- a cast converts, and one to void drops (C11 6.5.4)
  abbrev pub cast_to : CType → Run ℤ → Run ℤ → Run ℤ
  cast_to (tKind k) kept gone = do
    v ← kept
    give (to_kind k v)
  cast_to _ kept gone = do
    gone
    give (pos 0)

  abbrev mutual
    pub value : Use → Ex → Run ℤ
    -- primary expressions (C11 6.5.1)
    value u (eName n at) = named_value (entity_of c.env n at)
    value u (eNumber v f at) = give (pos v)
    value u (eLetter v at) = give v
    value u (eParen a e b) = value u e
    -- calls (C11 6.5.2.2)
    value u (eCall f a es b) = do
      vs ← arguments (parameters_of c.env f) es
      call_of u f vs
    -- an index is tested before the element is read (C11 6.5.2.1)
    value u (eIndex a x i y) = do
      v ← value used i
      e ← element_at x (base_of c.env a) v
      read e
    -- `++` and `--` (C11 6.5.2.4, 6.5.3.1): the target is found once
    value u (ePostfix e by at) = do
      target ← target_of e
      old ← read target
      stepped at by (kind_at e) target old
      give old
    value u (ePrefix pre.Increment at e) = do
      target ← target_of e
      old ← read target
      stepped at by.Increment (kind_at e) target old
    value u (ePrefix pre.Decrement at e) = do
      target ← target_of e
      old ← read target
      stepped at by.Decrement (kind_at e) target old
    value u (ePrefix pre.Extension at e) = value u e
    -- the operand of `sizeof` is not evaluated (C11 6.5.3.4 p2)
    value u (ePrefix pre.Sizeof at e) = give (pos (size_of c.model (typed e)))
    -- `+ - ~ !` (C11 6.5.3.3)
    value u (ePrefix o at e) = do
      v ← value used e
      prefixed at o (kind_at e) v
    value u (eSizeof at a ws b) = give (pos (size_of c.model (words_type c.env ws)))
    -- casts (C11 6.5.4)
    value u (eCast a ws b e) = cast_to (words_type c.env ws) (value used e) (value dropped e)
    -- `&&` and `||` evaluate their right operand only where it decides (C11 6.5.13 p4, 6.5.14 p4)
    value u (eBinary a op.AndAlso at b) = do
      x ← value used a
      choose (is_true x) (do y ← value used b; give (truth (is_true y))) (give (pos 0))
    value u (eBinary a op.OrElse at b) = do
      x ← value used a
      choose (is_true x) (give (pos 1)) (do y ← value used b; give (truth (is_true y)))
    -- the other binary operators (C11 6.5.5 to 6.5.12), the left operand first
    value u (eBinary a o at b) = do
      x ← value used a
      y ← value used b
      applied at o (kind_at a) (kind_at b) x y
    -- only one arm is evaluated, and converted to the common type (C11 6.5.15 p4, p5)
    value u (eCond t x a y b) = do
      v ← value used t
      r ← choose (is_true v) (value used a) (value used b)
      give (as_type c.model (typed (eCond t x a y b)) r)
    -- assignment converts to the target's type (C11 6.5.16.1 p2)
    value u (eAssign a to.Plain at b) = do
      target ← target_of a
      v ← value used b
      write target (to_kind (kind_at a) v)
    -- `E1 op= E2` finds E1 once, and reads it before E2 (C11 6.5.16.2 p3)
    value u (eAssign a o at b) = do
      target ← target_of a
      x ← read target
      y ← value used b
      v ← applied at (assigned_op o) (kind_at a) (kind_at b) x y
      write target (to_kind (kind_at a) v)
    value u (eComma es) = last_value es

    -- the left operands of a comma are dropped (C11 6.5.17 p2)
    pub last_value : Parts → Run ℤ
    last_value no_parts = give (pos 0)
    last_value (parts_and es x e) = do
      drop_values es
      value used e

    pub drop_values : Parts → Run (Unit {0})
    drop_values no_parts = give tt
    drop_values (parts_and es x e) = do
      drop_values es
      value dropped e
      give tt

    -- the values of a list, in its order
    pub values : Parts → Run (List ℤ)
    values no_parts = give []
    values (parts_and es x e) = do
      vs ← values es
      v ← value used e
      give (vs ++ v ∷ [])

    -- the values of arguments, each converted to the kind of its parameter (C11 6.5.2.2 p7)
    pub arguments : List Kind → Parts → Run (List ℤ)
    arguments kinds no_parts = give []
    arguments kinds (parts_and es x e) = do
      vs ← arguments kinds es
      v ← value used e
      give (vs ++ to_kind (slice_index_or kinds (count_parts es) kind.Int) v ∷ [])

    -- The object or element that is assigned to. An index is evaluated and tested here, before the right side.
    pub target_of : Ex → Run Element
    target_of (eParen a e b) = target_of e
    target_of (ePrefix pre.Extension at e) = target_of e
    target_of (eName n at) = target_at (object_number (entity_of c.env n at))
    target_of (eIndex a x i y) = do
      v ← value used i
      element_at x (base_of c.env a) v
    target_of _ = give (scalar 0)
