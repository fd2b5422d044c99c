-- The operations on bit-vectors, as arithmetic on natural numbers below two to the power of the width.
use Rattle.std.specs.Prelude.{ℕ, ◌+◌, ◌-◌, ◌*◌, ◌/◌, ◌%◌, ◌^◌, ◌==◌, Bool, nat_lt, nat_le, if◌then◌else◌}

-- the sum of two numbers of w bits, without its carry
abbrev pub sum_in : ℕ → ℕ → ℕ → ℕ
sum_in w a b = (a + b) % 2 ^ w

-- the difference, without its borrow
abbrev pub difference_in : ℕ → ℕ → ℕ → ℕ
difference_in w a b = (a + (2 ^ w - b)) % 2 ^ w

-- the low w bits of the product
abbrev pub product_in : ℕ → ℕ → ℕ → ℕ
product_in w a b = (a * b) % 2 ^ w

-- the quotient, 0 where the divisor is 0
abbrev pub quotient_of : ℕ → ℕ → ℕ
quotient_of a b = if b == 0 then 0 else a / b

-- the remainder, 0 where the divisor is 0
abbrev pub remainder_of : ℕ → ℕ → ℕ
remainder_of a b = if b == 0 then 0 else a % b

-- each of the w bits turned over
abbrev pub complement_in : ℕ → ℕ → ℕ
complement_in w a = 2 ^ w - 1 - a

-- shifted left by b; nothing is left where b is not below w
abbrev pub left_in : ℕ → ℕ → ℕ → ℕ
left_in w a b = if nat_lt b w then (a * 2 ^ b) % 2 ^ w else 0

-- shifted right by b, zeros coming in; nothing is left where b is not below w
abbrev pub right_in : ℕ → ℕ → ℕ → ℕ
right_in w a b = if nat_lt b w then a / 2 ^ b else 0

-- whether the top bit of w bits is 1
abbrev pub has_sign : ℕ → ℕ → Bool
has_sign w a = nat_le (2 ^ (w - 1)) a

-- shifted right by b, copies of the top bit coming in: where the top bit is 1, the complement is shifted
abbrev pub signed_right_in : ℕ → ℕ → ℕ → ℕ
signed_right_in w a b =
    if has_sign w a then complement_in w (right_in w (complement_in w a) b) else right_in w a b

-- the number with its top bit turned over: the order of these is the signed order
abbrev pub raised : ℕ → ℕ → ℕ
raised w a = (a + 2 ^ (w - 1)) % 2 ^ w

-- 1 for a truth, 0 for a falsehood
abbrev pub truth : Bool → ℕ
truth b = if b then 1 else 0

-- from k bits to w bits, copies of the top bit coming in above
abbrev pub sign_extended : ℕ → ℕ → ℕ → ℕ
sign_extended k w a = if has_sign k a then a + (2 ^ w - 2 ^ k) else a

-- bit k, counted from the lowest, which is bit 0
abbrev pub bit_of : ℕ → ℕ → ℕ
bit_of k a = (a / 2 ^ k) % 2
