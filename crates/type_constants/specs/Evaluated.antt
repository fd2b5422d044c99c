-- The value of a constant expression, without a state: none where its evaluation ends in an error.
use Rattle.std.specs.Prelude.{ℕ, Bool, true, false, not, if◌then◌else◌, ◌&&◌, Option, Some, None, Result, Ok, Err, ℤ, pos, negsuc}
use Rattle.lv_base.specs.declared.kind.Kind.{Kind}
use Rattle.lv_base.specs.declared.kind.Model.{Model}
use Rattle.lv_base.specs.declared.kind.Op.TheVariants as arith
use Rattle.lv_base.specs.declared.fault.ErrorKind.{ErrorKind}
use Rattle.lv_base.specs.Integers.{arith_of, converted, truth, is_zero}
use Rattle.c_tree.specs.declared.symbol.BinaryOp.{BinaryOp}
use Rattle.c_tree.specs.declared.symbol.BinaryOp.TheVariants as op
use Rattle.c_tree.specs.declared.tree.PrefixOp.{PrefixOp}
use Rattle.c_tree.specs.declared.tree.PrefixOp.TheVariants as pre
use Rattle.c_tree.specs.Tree.{Ex, eName, eNumber, eLetter, eParen, eCall, eIndex, ePostfix, ePrefix, eSizeof, eCast, eBinary, eCond, eAssign, eComma}
use Rattle.c_run.specs.Operators.{op_of, is_turned, is_negated}
use Rattle.c_meaning.specs.Kinds.{CType, tKind, promoted, operation_kind, right_kind, size_of, kind_of, is_kind}
use Rattle.c_meaning.specs.Bindings.{Env, Entity, anObjectOf, aConstantOf, entity_of, words_type}
use Rattle.c_meaning.specs.Types.{type_of}
use Rattle.c_meaning.specs.Constants.{is_constant, only_if}

abbrev pub ok_value : Result ℤ ErrorKind → Option ℤ
ok_value (Ok v) = Some v
ok_value (Err e) = None

-- `a != b` is `!(a == b)`
abbrev pub finished : Bool → Option ℤ → Option ℤ
finished false o = o
finished true None = None
finished true (Some v) = Some (truth (is_zero v))

abbrev pub computed_in : Model → Bool → BinaryOp → Kind → ℤ → ℤ → Option ℤ
computed_in model true o k left right = ok_value (arith_of (op_of o) k model right left)
computed_in model false o k left right = ok_value (arith_of (op_of o) k model left right)

abbrev pub applied_constant : Model → BinaryOp → Kind → Kind → ℤ → ℤ → Option ℤ
applied_constant model o k l x y =
    finished (is_negated o) (computed_in model (is_turned o) o (operation_kind model o k l) (converted (operation_kind model o k l) model x) (converted (right_kind model o k l) model y))

abbrev pub truth_constant : Option ℤ → Option ℤ
truth_constant None = None
truth_constant (Some v) = Some (truth (not (is_zero v)))

-- the right operand matters only where it is evaluated
abbrev pub both_constant : ℤ → Option ℤ → Option ℤ
both_constant x y = if is_zero x then Some (pos 0) else truth_constant y

abbrev pub either_constant : ℤ → Option ℤ → Option ℤ
either_constant x y = if is_zero x then truth_constant y else Some (pos 1)

abbrev pub apply_constant : Model → BinaryOp → Kind → Kind → ℤ → Option ℤ → Option ℤ
apply_constant model o k l x None = None
apply_constant model o k l x (Some y) = applied_constant model o k l x y

abbrev pub first_constant : Model → BinaryOp → Kind → Kind → ℤ → Option ℤ → Option ℤ
first_constant model op.AndAlso k l x y = both_constant x y
first_constant model op.OrElse k l x y = either_constant x y
first_constant model o k l x y = apply_constant model o k l x y

abbrev pub binary_constant : Model → BinaryOp → Kind → Kind → Option ℤ → Option ℤ → Option ℤ
binary_constant model o k l None y = None
binary_constant model o k l (Some x) y = first_constant model o k l x y

abbrev pub plus_constant : Model → Kind → Option ℤ → Option ℤ
plus_constant model k None = None
plus_constant model k (Some v) = Some (converted k model v)

abbrev pub minus_constant : Model → Kind → Option ℤ → Option ℤ
minus_constant model k None = None
minus_constant model k (Some v) = ok_value (arith_of arith.Sub k model (pos 0) (converted k model v))

abbrev pub complement_constant : Model → Kind → Option ℤ → Option ℤ
complement_constant model k None = None
complement_constant model k (Some v) = ok_value (arith_of arith.Xor k model (converted k model v) (converted k model (negsuc 0)))

abbrev pub prefix_constant : Model → PrefixOp → CType → Option ℤ → Option ℤ
prefix_constant model pre.Increment t v = None
prefix_constant model pre.Decrement t v = None
prefix_constant model pre.Plus t v = plus_constant model (promoted (kind_of t)) v
prefix_constant model pre.Minus t v = minus_constant model (promoted (kind_of t)) v
prefix_constant model pre.Complement t v = complement_constant model (promoted (kind_of t)) v
prefix_constant model pre.Not t v = finished true v
prefix_constant model pre.Extension t v = v
prefix_constant model pre.Sizeof t v = Some (pos (size_of model t))

abbrev pub as_value : Model → CType → ℤ → ℤ
as_value model (tKind k) v = converted k model v
as_value model _ v = pos 0

abbrev pub cast_constant : Model → CType → Option ℤ → Option ℤ
cast_constant model t None = None
cast_constant model t (Some v) = Some (as_value model t v)

abbrev pub cond_constant : Model → CType → Option ℤ → Option ℤ → Option ℤ → Option ℤ
cond_constant model t None a b = None
cond_constant model t (Some v) a b = cast_constant model t (if is_zero v then b else a)

abbrev pub named_constant : Entity → Option ℤ
named_constant (anObjectOf number) = None
named_constant (aConstantOf v) = Some v
named_constant _ = Some (pos 0)

module _ (env : Env) (model : Model) where
  abbrev pub evaluated : Ex → Option ℤ
  evaluated (eName n at) = named_constant (entity_of env n at)
  evaluated (eNumber v f at) = Some (pos v)
  evaluated (eLetter v at) = Some v
  evaluated (eParen a e b) = evaluated e
  evaluated (eCall f a es b) = None
  evaluated (eIndex a x i y) = None
  evaluated (ePostfix e c at) = None
  evaluated (ePrefix o at e) = prefix_constant model o (type_of env model e) (evaluated e)
  evaluated (eSizeof at a ws b) = Some (pos (size_of model (words_type env ws)))
  evaluated (eCast a ws b e) = cast_constant model (words_type env ws) (evaluated e)
  evaluated (eBinary a o at b) = binary_constant model o (kind_of (type_of env model a)) (kind_of (type_of env model b)) (evaluated a) (evaluated b)
  evaluated (eCond c x a y b) = cond_constant model (type_of env model (eCond c x a y b)) (evaluated c) (evaluated a) (evaluated b)
  evaluated (eAssign a o at b) = None
  evaluated (eComma es) = None

  abbrev pub constant_in : Ex → Option ℤ
  constant_in e = only_if (is_constant env e && is_kind (type_of env model e)) (evaluated e)
