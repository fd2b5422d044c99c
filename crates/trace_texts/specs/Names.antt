-- Kinds and operators as C spells them.
use Rattle.std.specs.Prelude.{ℕ, List, codes}
use Rattle.lv_base.specs.declared.kind.Kind.{Kind}
use Rattle.lv_base.specs.declared.kind.Kind.TheVariants as kind
use Rattle.c_tree.specs.declared.symbol.BinaryOp.{BinaryOp}
use Rattle.c_tree.specs.declared.symbol.BinaryOp.TheVariants as op
use Rattle.c_tree.specs.declared.symbol.Crement.{Crement}
use Rattle.c_tree.specs.declared.symbol.Crement.TheVariants as by

abbrev pub kind_text : Kind → List ℕ
kind_text kind.Bool = codes "_Bool"
kind_text kind.Char = codes "char"
kind_text kind.UChar = codes "unsigned char"
kind_text kind.Short = codes "short"
kind_text kind.UShort = codes "unsigned short"
kind_text kind.Int = codes "int"
kind_text kind.UInt = codes "unsigned int"
kind_text kind.Long = codes "long"
kind_text kind.ULong = codes "unsigned long"
kind_text kind.LongLong = codes "long long"
kind_text kind.ULongLong = codes "unsigned long long"

abbrev pub operator_text : BinaryOp → List ℕ
operator_text op.OrElse = codes "||"
operator_text op.AndAlso = codes "&&"
operator_text op.BitOr = codes "|"
operator_text op.BitXor = codes "^"
operator_text op.BitAnd = codes "&"
operator_text op.Equal = codes "=="
operator_text op.NotEqual = codes "!="
operator_text op.Less = codes "<"
operator_text op.Greater = codes ">"
operator_text op.LessEqual = codes "<="
operator_text op.GreaterEqual = codes ">="
operator_text op.ShiftLeft = codes "<<"
operator_text op.ShiftRight = codes ">>"
operator_text op.Add = codes "+"
operator_text op.Subtract = codes "-"
operator_text op.Multiply = codes "*"
operator_text op.Divide = codes "/"
operator_text op.Remainder = codes "%"

abbrev pub crement_text : Crement → List ℕ
crement_text by.Increment = codes "++"
crement_text by.Decrement = codes "--"
