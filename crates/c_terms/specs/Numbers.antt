-- Values of slots and operations of C on them, as numbers of so many bits.
use Rattle.std.specs.Prelude.{ℕ, ◌-◌, ◌*◌, ◌%◌, ◌^◌, ◌==◌, Bool, true, false, nat_lt, nat_le, bit_and, bit_or, bit_xor, if◌then◌else◌, negsuc}
use Rattle.lv_base.specs.declared.kind.Kind.{Kind}
use Rattle.lv_base.specs.declared.kind.Kind.TheVariants.{Bool as ABool, Char, UChar, Short, UShort, Int, UInt, Long, ULong, LongLong, ULongLong}
use Rattle.lv_base.specs.declared.kind.Model.{Model}
use Rattle.lv_base.specs.Integers.{width_of, is_signed, is_promoted, residue}
use Rattle.bv_term.specs.Numbers.{sum_in, difference_in, product_in, quotient_of, remainder_of, complement_in, left_in, right_in, signed_right_in, raised, truth, sign_extended, bit_of}

abbrev pub is_bool : Kind → Bool
is_bool ABool = true
is_bool Char = false
is_bool UChar = false
is_bool Short = false
is_bool UShort = false
is_bool Int = false
is_bool UInt = false
is_bool Long = false
is_bool ULong = false
is_bool LongLong = false
is_bool ULongLong = false

-- the kind to which arithmetic promotes (C11 6.3.1.1)
abbrev pub promoted : Kind → Kind
promoted kind = if is_promoted kind then kind else Int

-- ---- Slots: 64 bits, whatever the kind of the value

-- as many low bits as the kind has
abbrev pub narrowed : Kind → Model → ℕ → ℕ
narrowed kind model a = if nat_lt (width_of kind model) 64 then a % 2 ^ width_of kind model else a

-- the slot with these low bits in the kind
abbrev pub widened : Kind → Model → ℕ → ℕ
widened kind model low =
    if nat_le 64 (width_of kind model) then low else
    if is_signed kind then sign_extended (width_of kind model) 64 low else low

abbrev pub zero_test : ℕ → ℕ
zero_test a = truth (a == 0)

abbrev pub nonzero : ℕ → ℕ
nonzero a = complement_in 1 (zero_test a)

-- the conversion of a slot to a kind (C11 6.3.1.2, 6.3.1.3)
abbrev pub converted : Kind → Model → ℕ → ℕ
converted kind model a = if is_bool kind then nonzero a else widened kind model (narrowed kind model a)

-- ---- Operations on low bits of a width

abbrev pub top : ℕ → ℕ → ℕ
top w a = bit_of (w - 1) a

-- without its sign
abbrev pub magnitude : ℕ → ℕ → ℕ
magnitude w a = if top w a == 1 then difference_in w 0 a else a

-- the opposite, where the sign is 1
abbrev pub with_sign : ℕ → ℕ → ℕ → ℕ
with_sign w sign a = if sign == 1 then difference_in w 0 a else a

-- the product of signed operands, in twice the width
abbrev pub exact_product : ℕ → ℕ → ℕ → ℕ
exact_product w a b = product_in (w * 2) (sign_extended w (w * 2) a) (sign_extended w (w * 2) b)

abbrev pub product : Bool → ℕ → ℕ → ℕ → ℕ
product signed w a b = if signed then exact_product w a b % 2 ^ w else product_in w a b

abbrev pub quotient : Bool → ℕ → ℕ → ℕ → ℕ
quotient signed w a b =
    if signed then with_sign w (bit_xor (top w a) (top w b)) (quotient_of (magnitude w a) (magnitude w b)) else quotient_of a b

abbrev pub remainder : Bool → ℕ → ℕ → ℕ → ℕ
remainder signed w a b =
    if signed then with_sign w (top w a) (remainder_of (magnitude w a) (magnitude w b)) else remainder_of a b

abbrev pub right_shift : Bool → ℕ → ℕ → ℕ → ℕ
right_shift signed w a b = if signed then signed_right_in w a b else right_in w a b

-- 1 where the first is below the second
abbrev pub less : Bool → ℕ → ℕ → ℕ → ℕ
less signed w a b = if signed then truth (nat_lt (raised w a) (raised w b)) else truth (nat_lt a b)

-- ---- Where operations fail: 1 where they do

-- the operands have one sign, and the sum has the other
abbrev pub sum_overflows : ℕ → ℕ → ℕ → ℕ
sum_overflows w a b =
    bit_and (complement_in 1 (bit_xor (top w a) (top w b))) (bit_xor (top w a) (top w (sum_in w a b)))

-- the operands' signs differ, and the difference has not that of the first
abbrev pub difference_overflows : ℕ → ℕ → ℕ → ℕ
difference_overflows w a b = bit_and (bit_xor (top w a) (top w b)) (bit_xor (top w a) (top w (difference_in w a b)))

-- the product is not the extension of its low half
abbrev pub product_overflows : ℕ → ℕ → ℕ → ℕ
product_overflows w a b = complement_in 1 (truth (sign_extended w (w * 2) (exact_product w a b % 2 ^ w) == exact_product w a b))

-- the least value is divided by -1
abbrev pub quotient_overflows : ℕ → ℕ → ℕ → ℕ
quotient_overflows w a b = bit_and (truth (a == 2 ^ (w - 1))) (truth (b == residue w (negsuc 0)))

-- the amount, all 64 bits of it, is not below the width
abbrev pub is_far : ℕ → ℕ → ℕ
is_far w amount = complement_in 1 (truth (nat_lt amount w))

-- a signed operand is negative, or not what its shift is when it is shifted back
abbrev pub shift_loses : ℕ → ℕ → ℕ → ℕ
shift_loses w a b = bit_or (top w a) (complement_in 1 (truth (signed_right_in w (left_in w a b) b == a)))

abbrev pub left_shift_fails : Bool → ℕ → ℕ → ℕ → ℕ → ℕ
left_shift_fails signed w a b amount = if signed then bit_or (is_far w amount) (shift_loses w a b) else is_far w amount
