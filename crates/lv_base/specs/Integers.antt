-- The integer kinds of C and their arithmetic, on mathematical integers.
use Rattle.std.specs.Prelude.{ℕ, ◌-◌, ◌^◌, Bool, true, false, ◌&&◌, nat_lt, if◌then◌else◌, ℤ, pos, negsuc, ◌+ℤ◌, ◌-ℤ◌, ◌*ℤ◌, ◌≤ℤ◌, int_lt, int_le, int_div, int_rem, unsigned_abs, bit_and, bit_or, bit_xor, MatchBool, Result, Ok, Err, Option, Some, None}
use Rattle.std.specs.Int.{int_div_euclid, int_rem_euclid}
use Rattle.lv_base.specs.declared.kind.Kind.{Kind}
use Rattle.lv_base.specs.declared.kind.Kind.TheVariants.{Bool as ABool, Char, UChar, Short, UShort, Int, UInt, Long, ULong, LongLong, ULongLong}
use Rattle.lv_base.specs.declared.kind.Model.{Model}
use Rattle.lv_base.specs.declared.kind.Model.TheVariants.{Ilp32, Lp64}
use Rattle.lv_base.specs.declared.kind.Op.{Op}
use Rattle.lv_base.specs.declared.kind.Op.TheVariants.{Add, Sub, Mul, Div, Rem, Shl, Shr, And, Or, Xor, Less, LessEqual, Equal}
use Rattle.lv_base.specs.declared.fault.ErrorKind.{ErrorKind}
use Rattle.lv_base.specs.declared.fault.ErrorKind.TheVariants.{Overflow, Zero, Shift}

-- ---- Types (C11 5.2.4.2.1, 6.2.5)

-- the bits of a kind; `long` alone depends on the data model
abbrev pub width_of : Kind → Model → ℕ
width_of ABool model = 1
width_of Char model = 8
width_of UChar model = 8
width_of Short model = 16
width_of UShort model = 16
width_of Int model = 32
width_of UInt model = 32
width_of Long Ilp32 = 32
width_of Long Lp64 = 64
width_of ULong Ilp32 = 32
width_of ULong Lp64 = 64
width_of LongLong model = 64
width_of ULongLong model = 64

-- plain `char` is signed
abbrev pub is_signed : Kind → Bool
is_signed Char = true
is_signed Short = true
is_signed Int = true
is_signed Long = true
is_signed LongLong = true
is_signed ABool = false
is_signed UChar = false
is_signed UShort = false
is_signed UInt = false
is_signed ULong = false
is_signed ULongLong = false

-- a kind that promotion leaves as it is: its rank is that of `int` or greater (C11 6.3.1.1)
abbrev pub is_promoted : Kind → Bool
is_promoted Int = true
is_promoted UInt = true
is_promoted Long = true
is_promoted ULong = true
is_promoted LongLong = true
is_promoted ULongLong = true
is_promoted ABool = false
is_promoted Char = false
is_promoted UChar = false
is_promoted Short = false
is_promoted UShort = false

-- a signed kind of N bits ranges from -2^(N-1) to 2^(N-1) - 1, an unsigned one from 0 to 2^N - 1 (C11 6.2.6.2)
abbrev pub least_of : Kind → Model → ℤ
least_of kind model = if is_signed kind then negsuc (2 ^ (width_of kind model - 1) - 1) else pos 0

abbrev pub greatest_of : Kind → Model → ℤ
greatest_of kind model = if is_signed kind then pos (2 ^ (width_of kind model - 1) - 1) else pos (2 ^ width_of kind model - 1)

abbrev pub is_in_range : Kind → Model → ℤ → Bool
is_in_range kind model value = int_le (least_of kind model) value && int_le value (greatest_of kind model)

abbrev pub InRange : Kind → Model → ℤ → Type 0
InRange kind model value = (least_of kind model ≤ℤ value) × (value ≤ℤ greatest_of kind model)

-- ---- Conversions (C11 6.3.1.2, 6.3.1.3)

-- what is left of a value modulo 2^N, from 0 on
abbrev pub residue : ℕ → ℤ → ℕ
residue bits value = unsigned_abs (int_rem_euclid value (pos (2 ^ bits)))

-- the number of N bits in two's complement
abbrev pub signed_of : ℕ → ℕ → ℤ
signed_of bits low = if nat_lt low (2 ^ (bits - 1)) then pos low else negsuc (2 ^ bits - 1 - low)

-- the value of a kind that has these low bits
abbrev pub wrapped : Kind → Model → ℕ → ℤ
wrapped kind model low = if is_signed kind then signed_of (width_of kind model) low else pos low

abbrev pub is_zero : ℤ → Bool
is_zero value = int_le value (pos 0) && int_le (pos 0) value

-- To `_Bool` a value converts to 0 where it is 0 and to 1 otherwise; to any other kind modulo 2^N, also where the kind
-- is signed and doesn't hold the value, which C11 leaves to the implementation.
abbrev pub converted : Kind → Model → ℤ → ℤ
converted ABool model value = if is_zero value then pos 0 else pos 1
converted kind model value = wrapped kind model (residue (width_of kind model) value)

-- ---- Arithmetic (C11 6.5.5 to 6.5.12), in a promoted kind that both operands have been converted to

-- the exact result, where the kind holds it
abbrev pub held : Kind → Model → ErrorKind → ℤ → Result ℤ ErrorKind
held kind model error value = if is_in_range kind model value then Ok value else Err error

-- a sum, difference or product: exact where the kind is signed, modulo 2^N where it is unsigned (C11 6.5 p5, 6.2.5 p9)
abbrev pub exact : Kind → Model → ℤ → Result ℤ ErrorKind
exact kind model value = if is_signed kind then held kind model Overflow value else Ok (converted kind model value)

-- a quotient is cut towards zero, and a remainder has the dividend's sign; where the quotient isn't held, as that of the
-- least signed value by -1, neither is defined (C11 6.5.5 p5, p6)
abbrev pub quotient : Kind → Model → ℤ → ℤ → Result ℤ ErrorKind
quotient kind model left right = if is_zero right then Err Zero else held kind model Overflow (int_div left right)

abbrev pub remainder : Kind → Model → ℤ → ℤ → Result ℤ ErrorKind
remainder kind model left right =
    if is_zero right then Err Zero else
    if is_in_range kind model (int_div left right) then Ok (int_rem left right) else Err Overflow

-- the amount of a shift is not negative and below the left operand's bits (C11 6.5.7 p3)
abbrev pub is_amount : Kind → Model → ℤ → Bool
is_amount kind model amount = int_le (pos 0) amount && int_lt amount (pos (width_of kind model))

-- `left * 2^amount`; of a signed left operand it is defined only where that is not negative and the kind holds the
-- result (C11 6.5.7 p4)
abbrev pub left_shift : Kind → Model → ℤ → ℕ → Result ℤ ErrorKind
left_shift kind model left amount =
    if is_signed kind
    then (if int_lt left (pos 0) then Err Shift else held kind model Shift (left *ℤ pos (2 ^ amount)))
    else Ok (converted kind model (left *ℤ pos (2 ^ amount)))

-- `left / 2^amount`, rounded down, also where left is negative, which C11 leaves to the implementation (6.5.7 p5)
abbrev pub right_shift : ℤ → ℕ → ℤ
right_shift left amount = int_div_euclid left (pos (2 ^ amount))

-- bit by bit on two's complement (C11 6.5.10 to 6.5.12)
abbrev pub bitwise : (ℕ → ℕ → ℕ) → Kind → Model → ℤ → ℤ → ℤ
bitwise on_bits kind model left right = wrapped kind model (on_bits (residue (width_of kind model) left) (residue (width_of kind model) right))

abbrev pub truth : Bool → ℤ
truth true = pos 1
truth false = pos 0

-- the operation in this kind, or the error that it meets
abbrev pub arith_of : Op → Kind → Model → ℤ → ℤ → Result ℤ ErrorKind
arith_of Add kind model left right = exact kind model (left +ℤ right)
arith_of Sub kind model left right = exact kind model (left -ℤ right)
arith_of Mul kind model left right = exact kind model (left *ℤ right)
arith_of Div kind model left right = quotient kind model left right
arith_of Rem kind model left right = remainder kind model left right
arith_of Shl kind model left right = if is_amount kind model right then left_shift kind model left (unsigned_abs right) else Err Shift
arith_of Shr kind model left right = if is_amount kind model right then Ok (right_shift left (unsigned_abs right)) else Err Shift
arith_of And kind model left right = Ok (bitwise bit_and kind model left right)
arith_of Or kind model left right = Ok (bitwise bit_or kind model left right)
arith_of Xor kind model left right = Ok (bitwise bit_xor kind model left right)
arith_of Less kind model left right = Ok (truth (int_lt left right))
arith_of LessEqual kind model left right = Ok (truth (int_le left right))
arith_of Equal kind model left right = Ok (truth (int_le left right && int_le right left))

abbrev pub is_shift : Op → Bool
is_shift Shl = true
is_shift Shr = true
is_shift Add = false
is_shift Sub = false
is_shift Mul = false
is_shift Div = false
is_shift Rem = false
is_shift And = false
is_shift Or = false
is_shift Xor = false
is_shift Less = false
is_shift LessEqual = false
is_shift Equal = false

-- in the range of some kind
abbrev pub InAny : ℤ → Type 0
InAny value = (negsuc (2 ^ 63 - 1) ≤ℤ value) × (value ≤ℤ pos (2 ^ 64 - 1))

-- the right operand is of the same kind, but that of a shift may be of any
abbrev pub IsRight : Op → Kind → Model → ℤ → Type 0
IsRight op kind model right = MatchBool (is_shift op) (InAny right) (InRange kind model right)

-- an amount as a number
abbrev pub amount_of : Kind → Model → ℤ → Option ℕ
amount_of kind model amount = if is_amount kind model amount then Some (unsigned_abs amount) else None
