-- Arithmetic that tests its operands: they have to be of the operation's kind, which has to be a promoted one.
use Rattle.std.specs.Prelude.{◌-◌, ◌^◌, Bool, ◌&&◌, if◌then◌else◌, Result, Err, ℤ, pos, negsuc, int_le}
use Rattle.lv_base.specs.declared.kind.Kind.{Kind}
use Rattle.lv_base.specs.declared.kind.Model.{Model}
use Rattle.lv_base.specs.declared.kind.Op.{Op}
use Rattle.lv_base.specs.declared.fault.ErrorKind.{ErrorKind}
use Rattle.lv_base.specs.declared.fault.ErrorKind.TheVariants as error
use Rattle.lv_base.specs.Integers.{arith_of, is_promoted, is_in_range, is_shift}

-- of some kind
abbrev pub is_any : ℤ → Bool
is_any value = int_le (negsuc (2 ^ 63 - 1)) value && int_le value (pos (2 ^ 64 - 1))

-- the right operand of a shift may be of any kind
abbrev pub is_right : Op → Kind → Model → ℤ → Bool
is_right op kind model value = if is_shift op then is_any value else is_in_range kind model value

abbrev pub has_operands : Op → Kind → Model → ℤ → ℤ → Bool
has_operands op kind model left right = is_promoted kind && (is_in_range kind model left && is_right op kind model right)

-- the operation on such operands; it is not done on others
abbrev pub guarded : Model → Op → Kind → ℤ → ℤ → Result ℤ ErrorKind
guarded model op kind left right = if has_operands op kind model left right then arith_of op kind model left right else Err error.Overflow
