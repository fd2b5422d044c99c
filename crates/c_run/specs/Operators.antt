-- Operators of the source as operations on integers, and the use of what a call returns.
use Rattle.std.specs.Prelude.{ℕ, Bool, true, false, Option, Some, None, ℤ, pos}
use Rattle.lv_base.specs.declared.kind.Kind.{Kind}
use Rattle.lv_base.specs.declared.kind.Op.{Op}
use Rattle.lv_base.specs.declared.kind.Op.TheVariants as arith
use Rattle.lv_base.specs.declared.fault.ErrorKind.TheVariants as error
use Rattle.lv_base.specs.Integers.{truth, is_zero}
use Rattle.c_tree.specs.declared.symbol.BinaryOp.{BinaryOp}
use Rattle.c_tree.specs.declared.symbol.BinaryOp.TheVariants as op
use Rattle.c_tree.specs.declared.symbol.AssignOp.{AssignOp}
use Rattle.c_tree.specs.declared.symbol.AssignOp.TheVariants as to
use Rattle.c_tree.specs.declared.symbol.Crement.{Crement}
use Rattle.c_tree.specs.declared.symbol.Crement.TheVariants as by
use Rattle.c_run.specs.Run.{Run, give, fail}

-- ---- Operators of the source as operations

-- `a > b` is `b < a`, and `a != b` is `!(a == b)`; these meet no error
abbrev pub op_of : BinaryOp → Op
op_of op.OrElse = arith.Or
op_of op.AndAlso = arith.And
op_of op.BitOr = arith.Or
op_of op.BitXor = arith.Xor
op_of op.BitAnd = arith.And
op_of op.Equal = arith.Equal
op_of op.NotEqual = arith.Equal
op_of op.Less = arith.Less
op_of op.Greater = arith.Less
op_of op.LessEqual = arith.LessEqual
op_of op.GreaterEqual = arith.LessEqual
op_of op.ShiftLeft = arith.Shl
op_of op.ShiftRight = arith.Shr
op_of op.Add = arith.Add
op_of op.Subtract = arith.Sub
op_of op.Multiply = arith.Mul
op_of op.Divide = arith.Div
op_of op.Remainder = arith.Rem

abbrev pub is_turned : BinaryOp → Bool
is_turned op.Greater = true
is_turned op.GreaterEqual = true
is_turned _ = false

abbrev pub is_negated : BinaryOp → Bool
is_negated op.NotEqual = true
is_negated _ = false

abbrev pub negated : Bool → ℤ → ℤ
negated true v = truth (is_zero v)
negated false v = v

abbrev pub is_logical : BinaryOp → Bool
is_logical op.OrElse = true
is_logical op.AndAlso = true
is_logical _ = false

-- the operation of `E1 op= E2`
abbrev pub assigned_op : AssignOp → BinaryOp
assigned_op to.Plain = op.Add
assigned_op to.Multiply = op.Multiply
assigned_op to.Divide = op.Divide
assigned_op to.Remainder = op.Remainder
assigned_op to.Add = op.Add
assigned_op to.Subtract = op.Subtract
assigned_op to.ShiftLeft = op.ShiftLeft
assigned_op to.ShiftRight = op.ShiftRight
assigned_op to.BitAnd = op.BitAnd
assigned_op to.BitXor = op.BitXor
assigned_op to.BitOr = op.BitOr

abbrev pub is_plain : AssignOp → Bool
is_plain to.Plain = true
is_plain _ = false

abbrev pub crement_op : Crement → Op
crement_op by.Increment = arith.Add
crement_op by.Decrement = arith.Sub

-- ---- What a call gives

-- Whether the value of a call is used. It is not where the call is a whole expression statement, the first or third part of a
-- `for`, the left operand of a comma, or cast to void.
pub data Use : Type 0 where
  used : Use
  dropped : Use

-- the value of a call; a function with a result that ended without `return` has none to be used (C11 6.9.1 p12)
abbrev pub called_value : Use → Option Kind → ℕ → Option ℤ → Run ℤ
called_value u result at (Some v) = give v
called_value used (Some k) at None = fail error.Missing at
called_value u result at None = give (pos 0)
