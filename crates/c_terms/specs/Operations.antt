-- The operations of C on two slots, operator by operator: their values, and where they fail.
use Rattle.std.specs.Prelude.{ℕ, ◌==◌, Bool, bit_and, bit_or, bit_xor, if◌then◌else◌, List, [], ◌∷◌}
use Rattle.lv_base.specs.declared.kind.Kind.{Kind}
use Rattle.lv_base.specs.declared.kind.Model.{Model}
use Rattle.lv_base.specs.declared.fault.ErrorKind.{ErrorKind}
use Rattle.lv_base.specs.declared.fault.ErrorKind.TheVariants.{Overflow, Zero, Shift}
use Rattle.lv_base.specs.Integers.{width_of, is_signed}
use Rattle.c_tree.specs.declared.symbol.BinaryOp.{BinaryOp}
use Rattle.c_tree.specs.declared.symbol.BinaryOp.TheVariants.{OrElse, AndAlso, BitOr, BitXor, BitAnd, Equal, NotEqual, Less, Greater, LessEqual, GreaterEqual, ShiftLeft, ShiftRight, Add, Subtract, Multiply, Divide, Remainder}
use Rattle.bv_term.specs.Numbers.{sum_in, difference_in, complement_in, left_in, truth}
use Rattle.c_terms.specs.Numbers.{narrowed, widened, product, quotient, remainder, right_shift, less, sum_overflows, difference_overflows, product_overflows, quotient_overflows, is_far, left_shift_fails}

-- the slot that an operation gives, of the low bits of its operands in its kind
abbrev pub operation : BinaryOp → Kind → Model → ℕ → ℕ → ℕ
operation OrElse kind model a b = 0
operation AndAlso kind model a b = 0
operation BitOr kind model a b = widened kind model (bit_or a b)
operation BitXor kind model a b = widened kind model (bit_xor a b)
operation BitAnd kind model a b = widened kind model (bit_and a b)
operation Equal kind model a b = truth (a == b)
operation NotEqual kind model a b = complement_in 1 (truth (a == b))
operation Less kind model a b = less (is_signed kind) (width_of kind model) a b
operation Greater kind model a b = less (is_signed kind) (width_of kind model) b a
operation LessEqual kind model a b = complement_in 1 (less (is_signed kind) (width_of kind model) b a)
operation GreaterEqual kind model a b = complement_in 1 (less (is_signed kind) (width_of kind model) a b)
operation ShiftLeft kind model a b = widened kind model (left_in (width_of kind model) a b)
operation ShiftRight kind model a b = widened kind model (right_shift (is_signed kind) (width_of kind model) a b)
operation Add kind model a b = widened kind model (sum_in (width_of kind model) a b)
operation Subtract kind model a b = widened kind model (difference_in (width_of kind model) a b)
operation Multiply kind model a b = widened kind model (product (is_signed kind) (width_of kind model) a b)
operation Divide kind model a b = widened kind model (quotient (is_signed kind) (width_of kind model) a b)
operation Remainder kind model a b = widened kind model (remainder (is_signed kind) (width_of kind model) a b)

-- an error, and 1 where it is met
pub record Failure : Type 0 where
  pub kind : ErrorKind
  pub when : ℕ

abbrev pub failure : ErrorKind → ℕ → Failure
failure kind when = record { kind = kind; when = when }

-- none in an unsigned kind
abbrev pub if_signed : Kind → Failure → List Failure
if_signed kind x = if is_signed kind then x ∷ [] else []

-- a divisor of 0, then an overflow
abbrev pub division_fails : Kind → Model → ℕ → ℕ → List Failure
division_fails kind model a b =
    if is_signed kind
    then failure Zero (truth (b == 0)) ∷ failure Overflow (quotient_overflows (width_of kind model) a b) ∷ []
    else failure Zero (truth (b == 0)) ∷ []

-- the errors that an operation may meet, in their order, of the low bits of its operands and all of the second
abbrev pub failures : BinaryOp → Kind → Model → ℕ → ℕ → ℕ → List Failure
failures OrElse kind model a b amount = []
failures AndAlso kind model a b amount = []
failures BitOr kind model a b amount = []
failures BitXor kind model a b amount = []
failures BitAnd kind model a b amount = []
failures Equal kind model a b amount = []
failures NotEqual kind model a b amount = []
failures Less kind model a b amount = []
failures Greater kind model a b amount = []
failures LessEqual kind model a b amount = []
failures GreaterEqual kind model a b amount = []
failures ShiftLeft kind model a b amount = failure Shift (left_shift_fails (is_signed kind) (width_of kind model) a b amount) ∷ []
failures ShiftRight kind model a b amount = failure Shift (is_far (width_of kind model) amount) ∷ []
failures Add kind model a b amount = if_signed kind (failure Overflow (sum_overflows (width_of kind model) a b))
failures Subtract kind model a b amount = if_signed kind (failure Overflow (difference_overflows (width_of kind model) a b))
failures Multiply kind model a b amount = if_signed kind (failure Overflow (product_overflows (width_of kind model) a b))
failures Divide kind model a b amount = division_fails kind model a b
failures Remainder kind model a b amount = division_fails kind model a b

-- how many these are
abbrev pub failure_count : BinaryOp → Bool → ℕ
failure_count OrElse signed = 0
failure_count AndAlso signed = 0
failure_count BitOr signed = 0
failure_count BitXor signed = 0
failure_count BitAnd signed = 0
failure_count Equal signed = 0
failure_count NotEqual signed = 0
failure_count Less signed = 0
failure_count Greater signed = 0
failure_count LessEqual signed = 0
failure_count GreaterEqual signed = 0
failure_count ShiftLeft signed = 1
failure_count ShiftRight signed = 1
failure_count Add signed = if signed then 1 else 0
failure_count Subtract signed = if signed then 1 else 0
failure_count Multiply signed = if signed then 1 else 0
failure_count Divide signed = if signed then 2 else 1
failure_count Remainder signed = if signed then 2 else 1

-- a minus: 0 less the operand
abbrev pub negation : Kind → Model → ℕ → ℕ
negation kind model a = widened kind model (difference_in (width_of kind model) 0 (narrowed kind model a))

-- where it overflows in a signed kind
abbrev pub negation_overflows : Kind → Model → ℕ → ℕ
negation_overflows kind model a =
    difference_overflows (width_of kind model) (narrowed kind model 0) (narrowed kind model a)

-- a complement, bit by bit
abbrev pub complement : Kind → Model → ℕ → ℕ
complement kind model a = widened kind model (complement_in (width_of kind model) (narrowed kind model a))
