-- The nodes of the typed tree, made of the nodes of their parts.
use Rattle.std.specs.Prelude.{ℕ, List, Option, Some, None, codes, bytes_eq, position, if◌then◌else◌}
use Rattle.lv_base.specs.declared.kind.Kind.{Kind}
use Rattle.lv_base.specs.declared.kind.Kind.TheVariants as kind
use Rattle.lv_base.specs.declared.kind.Model.{Model}
use Rattle.c_tree.specs.declared.symbol.BinaryOp.{BinaryOp}
use Rattle.c_tree.specs.declared.symbol.BinaryOp.TheVariants as op
use Rattle.c_tree.specs.declared.symbol.AssignOp.{AssignOp}
use Rattle.c_tree.specs.declared.symbol.AssignOp.TheVariants as to
use Rattle.c_tree.specs.declared.tree.PrefixOp.{PrefixOp}
use Rattle.c_tree.specs.declared.tree.PrefixOp.TheVariants as pre
use Rattle.c_tree.specs.Tree.{Ex, eName}
use Rattle.c_run.specs.Operators.{assigned_op}
use Rattle.c_meaning.specs.Kinds.{promoted, operation_kind, right_kind}
use Rattle.c_meaning.specs.Bindings.{Env, Entity, aFunctionOf, entity_of}
use Rattle.c_meaning.specs.Known as k
use Rattle.c_typed.specs.Tree.{Val, vNothing, vConvert, vNegate, vComplement, vNot, vCall, vReach, vAbort, vDraw, vBinary, vBoth, vEither, vAssign, vUpdate, vComma, Goal, Vals, no_values, values_and}
use Rattle.c_types.specs.Elaborated.{drawn_as}
use Rattle.typed_values.specs.declared.known.Known.{Known}
use Rattle.typed_values.specs.declared.known.Known.TheVariants as kn

abbrev pub means : Known → k.Known
means kn.Reaches = k.reaches
means kn.Aborts = k.aborts
means (kn.Draws kind) = k.draws kind

abbrev pub some_known : Option Known → Option k.Known
some_known None = None
some_known (Some known) = Some (means known)

-- those that draw a kind of 32 bits or more
abbrev pub large_draw : List ℕ → Option k.Known
large_draw name =
    if bytes_eq (codes "__VERIFIER_nondet_int") name then Some (k.draws kind.Int)
    else if bytes_eq (codes "__VERIFIER_nondet_uint") name then Some (k.draws kind.UInt)
    else if bytes_eq (codes "__VERIFIER_nondet_unsigned") name then Some (k.draws kind.UInt)
    else if bytes_eq (codes "__VERIFIER_nondet_long") name then Some (k.draws kind.Long)
    else if bytes_eq (codes "__VERIFIER_nondet_ulong") name then Some (k.draws kind.ULong)
    else if bytes_eq (codes "__VERIFIER_nondet_longlong") name then Some (k.draws kind.LongLong)
    else if bytes_eq (codes "__VERIFIER_nondet_ulonglong") name then Some (k.draws kind.ULongLong)
    else None

-- those that draw a smaller kind, or what else there is
abbrev pub small_draw : List ℕ → Option k.Known → Option k.Known
small_draw name other =
    if bytes_eq (codes "__VERIFIER_nondet_bool") name then Some (k.draws kind.Bool)
    else if bytes_eq (codes "__VERIFIER_nondet_char") name then Some (k.draws kind.Char)
    else if bytes_eq (codes "__VERIFIER_nondet_uchar") name then Some (k.draws kind.UChar)
    else if bytes_eq (codes "__VERIFIER_nondet_short") name then Some (k.draws kind.Short)
    else if bytes_eq (codes "__VERIFIER_nondet_ushort") name then Some (k.draws kind.UShort)
    else other

-- all of them, one by one
abbrev pub known_by : List ℕ → Option k.Known
known_by name =
    if bytes_eq (codes "reach_error") name then Some k.reaches
    else if bytes_eq (codes "abort") name then Some k.aborts
    else small_draw name (large_draw name)

-- ---- Calls, by the names of the functions with a body

abbrev pub called : Option Kind → ℕ → ℕ → Option ℕ → Vals → Val
called result at bracket None vs = vAbort
called result at bracket (Some f) vs = vCall result at bracket f vs

module _ (bodies : List (List ℕ)) where
  abbrev pub called_known : Option k.Known → Option Kind → List ℕ → ℕ → ℕ → Vals → Val
  called_known (Some k.reaches) result n at bracket vs = vReach at
  called_known (Some k.aborts) result n at bracket vs = vAbort
  called_known (Some (k.draws kind)) result n at bracket vs = drawn_as result (vDraw kind)
  called_known None result n at bracket vs = called result at bracket (position (λ m. bytes_eq m n) bodies) vs

  abbrev pub called_entity : Entity → List ℕ → ℕ → ℕ → Vals → Val
  called_entity (aFunctionOf result parameters) n at bracket vs = called_known (k.known_of n) result n at bracket vs
  called_entity _ n at bracket vs = vAbort

  abbrev pub called_name : Env → Ex → ℕ → Vals → Val
  called_name env (eName n at) bracket vs = called_entity (entity_of env n at) n at bracket vs
  called_name env f bracket vs = vAbort

-- ---- Operators

abbrev pub binary_value : Model → BinaryOp → ℕ → Kind → Kind → Val → Val → Val
binary_value model op.AndAlso at left right a b = vBoth a b
binary_value model op.OrElse at left right a b = vEither a b
binary_value model o at left right a b = vBinary o (operation_kind model o left right) at (vConvert (operation_kind model o left right) a) (vConvert (right_kind model o left right) b)

abbrev pub assigned_value : Model → AssignOp → ℕ → Kind → Kind → Goal → Val → Val
assigned_value model to.Plain at left right g b = vAssign left at g (vConvert left b)
assigned_value model o at left right g b = vUpdate (assigned_op o) (operation_kind model (assigned_op o) left right) left at g (vConvert (right_kind model (assigned_op o) left right) b)

-- `+ - ~ !`, and `__extension__`, which is nothing
abbrev pub prefix_value : PrefixOp → ℕ → Kind → Val → Val
prefix_value pre.Plus at operand v = vConvert (promoted operand) v
prefix_value pre.Minus at operand v = vNegate (promoted operand) at (vConvert (promoted operand) v)
prefix_value pre.Complement at operand v = vComplement (promoted operand) at (vConvert (promoted operand) v)
prefix_value pre.Not at operand v = vNot v
prefix_value _ at operand v = v

-- the last of some values, behind the others
abbrev pub comma_value : Vals → Val
comma_value no_values = vNothing
comma_value (values_and vs v) = vComma vs v
