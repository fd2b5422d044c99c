-- Which terms the operations of C are: the words once an operation's terms were put, and the number of the last of them.
use Rattle.std.specs.Prelude.{ℕ, ◌-◌, ◌*◌, ◌^◌, Bool, false, nat_lt, nat_le, if◌then◌else◌, ℤ, negsuc}
use Rattle.lv_base.specs.declared.kind.Kind.{Kind}
use Rattle.lv_base.specs.declared.kind.Model.{Model}
use Rattle.lv_base.specs.declared.fault.ErrorKind.TheVariants.{Overflow, Zero, Shift}
use Rattle.lv_base.specs.Integers.{width_of, is_signed, residue}
use Rattle.c_tree.specs.declared.symbol.BinaryOp.{BinaryOp}
use Rattle.c_tree.specs.declared.symbol.BinaryOp.TheVariants as operator
use Rattle.bv_term.specs.declared.term.TermId.{TermId}
use Rattle.bv_term.specs.declared.term.Term.{Term}
use Rattle.bv_term.specs.declared.term.Term.TheVariants as term
use Rattle.bv_term.specs.WellFormed.{Table}
use Rattle.bv_term.specs.Keys.{put_of}
use Rattle.c_terms.specs.declared.words.Words.{Words}
use Rattle.c_terms.specs.declared.arithmetic.Operands.{Operands}
use Rattle.c_terms.specs.declared.failing.Tests.{Tests}
use Rattle.c_terms.specs.declared.failing.Tests.TheVariants.{None, One, Two}
use Rattle.c_terms.specs.Numbers.{is_bool}
use Rattle.c_terms.specs.Fitting.{fits_in}

-- ---- Words

abbrev pub words_of : Table → Bool → Words
words_of table sound = record { terms = table; is_sound = sound }

-- a well-formed term is put as the table puts it
abbrev pub put_fit : Words → Term → Words × TermId
put_fit w t = let p = put_of w.terms t in (words_of p.0 w.is_sound, p.1)

-- one that is not well formed is not put: number 0 stands in its place
abbrev pub put_unfit : Words → Words × TermId
put_unfit w = (words_of w.terms false, record { 0 = 0 })

abbrev pub put : Words → Term → Words × TermId
put w t = if fits_in w.terms t then put_fit w t else put_unfit w

-- the value modulo two to the power of a width of at most 64
abbrev pub low_bits : ℕ → ℤ → ℕ
low_bits width value = if nat_lt 64 width then 0 else residue width value

abbrev pub constant_of : Words → ℕ → ℤ → Words × TermId
constant_of w width value = put w (term.Constant width (low_bits width value))

abbrev pub constant : Words → ℤ → Words × TermId
constant w value = constant_of w 64 value

abbrev pub zero : Words → ℕ → Words × TermId
zero w width = put w (term.Constant width 0)

abbrev pub cell : Words → ℕ → Words × TermId
cell w c = put w (term.Cell c)

-- ---- Single terms

abbrev pub word_not : Words → TermId → Words × TermId
word_not w i = put w (term.Not i)

abbrev pub word_both : Words → TermId → TermId → Words × TermId
word_both w i j = put w (term.And i j)

abbrev pub word_either : Words → TermId → TermId → Words × TermId
word_either w i j = put w (term.Or i j)

abbrev pub word_differ : Words → TermId → TermId → Words × TermId
word_differ w i j = put w (term.Xor i j)

abbrev pub word_equal : Words → TermId → TermId → Words × TermId
word_equal w i j = put w (term.Equal i j)

abbrev pub word_less : Words → TermId → TermId → Words × TermId
word_less w i j = put w (term.Less i j)

abbrev pub word_less_signed : Words → TermId → TermId → Words × TermId
word_less_signed w i j = put w (term.LessSigned i j)

abbrev pub word_add : Words → TermId → TermId → Words × TermId
word_add w i j = put w (term.Add i j)

abbrev pub word_subtract : Words → TermId → TermId → Words × TermId
word_subtract w i j = put w (term.Subtract i j)

abbrev pub word_multiply : Words → TermId → TermId → Words × TermId
word_multiply w i j = put w (term.Multiply i j)

abbrev pub word_divide : Words → TermId → TermId → Words × TermId
word_divide w i j = put w (term.Divide i j)

abbrev pub word_remainder : Words → TermId → TermId → Words × TermId
word_remainder w i j = put w (term.Remainder i j)

abbrev pub word_shift_left : Words → TermId → TermId → Words × TermId
word_shift_left w i j = put w (term.ShiftLeft i j)

abbrev pub word_shift_right : Words → TermId → TermId → Words × TermId
word_shift_right w i j = put w (term.ShiftRight i j)

abbrev pub word_shift_signed : Words → TermId → TermId → Words × TermId
word_shift_signed w i j = put w (term.ShiftSigned i j)

abbrev pub word_choose : Words → TermId → TermId → TermId → Words × TermId
word_choose w test i j = put w (term.Select test i j)

abbrev pub word_extend_zero : Words → ℕ → TermId → Words × TermId
word_extend_zero w width i = put w (term.ZeroExtend width i)

abbrev pub word_extend_sign : Words → ℕ → TermId → Words × TermId
word_extend_sign w width i = put w (term.SignExtend width i)

abbrev pub word_truncate : Words → ℕ → TermId → Words × TermId
word_truncate w width i = put w (term.Truncate width i)

abbrev pub word_top : Words → ℕ → TermId → Words × TermId
word_top w width i = put w (term.Bit (width - 1) i)

-- ---- Words of several terms

abbrev pub is_zero : Words → TermId → Words × TermId
is_zero w slot = let p = zero w 64 in word_equal p.0 slot p.1

abbrev pub truth : Words → TermId → Words × TermId
truth w i = word_extend_zero w 64 i

-- ---- Values of slots and of elements

abbrev pub narrow : Words → Kind → Model → TermId → Words × TermId
narrow w kind model slot = if nat_lt (width_of kind model) 64 then word_truncate w (width_of kind model) slot else (w, slot)

abbrev pub widen : Words → Kind → Model → TermId → Words × TermId
widen w kind model bits =
    if nat_le 64 (width_of kind model) then (w, bits) else
    if is_signed kind then word_extend_sign w 64 bits else word_extend_zero w 64 bits

abbrev pub nonzero : Words → TermId → Words × TermId
nonzero w slot =
    let p = is_zero w slot in
    let q = word_not p.0 p.1 in
    truth q.0 q.1

abbrev pub cut : Words → Kind → Model → TermId → Words × TermId
cut w kind model slot = let p = narrow w kind model slot in widen p.0 kind model p.1

abbrev pub converted : Words → Kind → Model → TermId → Words × TermId
converted w kind model slot = if is_bool kind then nonzero w slot else cut w kind model slot

abbrev pub negated : Words → Kind → Model → TermId → Words × TermId
negated w kind model slot =
    let p = narrow w kind model slot in
    let z = zero p.0 (width_of kind model) in
    let q = word_subtract z.0 z.1 p.1 in
    widen q.0 kind model q.1

abbrev pub complement : Words → Kind → Model → TermId → Words × TermId
complement w kind model slot =
    let p = narrow w kind model slot in
    let q = word_not p.0 p.1 in
    widen q.0 kind model q.1

-- ---- Operands

abbrev pub operands_of : Kind → Model → TermId → TermId → TermId → Operands
operands_of kind model left right whole = record { kind = kind; model = model; left = left; right = right; whole = whole }

abbrev pub operands : Words → Kind → Model → TermId → TermId → Words × Operands
operands w kind model left right =
    let p = narrow w kind model left in
    let q = narrow p.0 kind model right in
    (q.0, operands_of kind model p.1 q.1 right)

abbrev pub bits : Operands → ℕ
bits o = width_of o.kind o.model

-- ---- Parts of the operations

abbrev pub is_less : Words → Operands → TermId → TermId → Words × TermId
is_less w o i j = if is_signed o.kind then word_less_signed w i j else word_less w i j

abbrev pub right_bits : Words → Operands → Words × TermId
right_bits w o = if is_signed o.kind then word_shift_signed w o.left o.right else word_shift_right w o.left o.right

-- the product of twice the width, of signed operands
abbrev pub exact_product : Words → Operands → Words × TermId
exact_product w o =
    let p = word_extend_sign w (bits o * 2) o.left in
    let q = word_extend_sign p.0 (bits o * 2) o.right in
    word_multiply q.0 p.1 q.1

abbrev pub low_product : Words → Operands → Words × TermId
low_product w o = let p = exact_product w o in word_truncate p.0 (bits o) p.1

abbrev pub product_bits : Words → Operands → Words × TermId
product_bits w o = if is_signed o.kind then low_product w o else word_multiply w o.left o.right

-- an operand without its sign
abbrev pub magnitude : Words → Operands → TermId → Words × TermId
magnitude w o i =
    let p = zero w (bits o) in
    let q = word_subtract p.0 p.1 i in
    let s = word_top q.0 (bits o) i in
    word_choose s.0 s.1 q.1 i

-- a magnitude with a sign
abbrev pub with_sign : Words → Operands → TermId → TermId → Words × TermId
with_sign w o sign i =
    let p = zero w (bits o) in
    let q = word_subtract p.0 p.1 i in
    word_choose q.0 sign q.1 i

-- whether the operands' signs differ
abbrev pub signs_differ : Words → Operands → Words × TermId
signs_differ w o =
    let p = word_top w (bits o) o.left in
    let q = word_top p.0 (bits o) o.right in
    word_differ q.0 p.1 q.1

abbrev pub signed_quotient : Words → Operands → Words × TermId
signed_quotient w o =
    let p = magnitude w o o.left in
    let q = magnitude p.0 o o.right in
    let r = word_divide q.0 p.1 q.1 in
    let s = signs_differ r.0 o in
    with_sign s.0 o s.1 r.1

abbrev pub quotient_bits : Words → Operands → Words × TermId
quotient_bits w o = if is_signed o.kind then signed_quotient w o else word_divide w o.left o.right

abbrev pub signed_remainder : Words → Operands → Words × TermId
signed_remainder w o =
    let p = magnitude w o o.left in
    let q = magnitude p.0 o o.right in
    let r = word_remainder q.0 p.1 q.1 in
    let s = word_top r.0 (bits o) o.left in
    with_sign s.0 o s.1 r.1

abbrev pub remainder_bits : Words → Operands → Words × TermId
remainder_bits w o = if is_signed o.kind then signed_remainder w o else word_remainder w o.left o.right

-- ---- Operations

abbrev pub either : Words → Operands → Words × TermId
either w o = let p = word_either w o.left o.right in widen p.0 o.kind o.model p.1

abbrev pub differ : Words → Operands → Words × TermId
differ w o = let p = word_differ w o.left o.right in widen p.0 o.kind o.model p.1

abbrev pub both : Words → Operands → Words × TermId
both w o = let p = word_both w o.left o.right in widen p.0 o.kind o.model p.1

abbrev pub sum : Words → Operands → Words × TermId
sum w o = let p = word_add w o.left o.right in widen p.0 o.kind o.model p.1

abbrev pub difference : Words → Operands → Words × TermId
difference w o = let p = word_subtract w o.left o.right in widen p.0 o.kind o.model p.1

abbrev pub shifted_left : Words → Operands → Words × TermId
shifted_left w o = let p = word_shift_left w o.left o.right in widen p.0 o.kind o.model p.1

abbrev pub shifted_right : Words → Operands → Words × TermId
shifted_right w o = let p = right_bits w o in widen p.0 o.kind o.model p.1

abbrev pub product : Words → Operands → Words × TermId
product w o = let p = product_bits w o in widen p.0 o.kind o.model p.1

abbrev pub quotient : Words → Operands → Words × TermId
quotient w o = let p = quotient_bits w o in widen p.0 o.kind o.model p.1

abbrev pub remainder : Words → Operands → Words × TermId
remainder w o = let p = remainder_bits w o in widen p.0 o.kind o.model p.1

abbrev pub equal : Words → Operands → Words × TermId
equal w o = let p = word_equal w o.left o.right in truth p.0 p.1

abbrev pub unequal : Words → Operands → Words × TermId
unequal w o =
    let p = word_equal w o.left o.right in
    let q = word_not p.0 p.1 in
    truth q.0 q.1

abbrev pub less : Words → Operands → Words × TermId
less w o = let p = is_less w o o.left o.right in truth p.0 p.1

abbrev pub greater : Words → Operands → Words × TermId
greater w o = let p = is_less w o o.right o.left in truth p.0 p.1

abbrev pub at_most : Words → Operands → Words × TermId
at_most w o =
    let p = is_less w o o.right o.left in
    let q = word_not p.0 p.1 in
    truth q.0 q.1

abbrev pub at_least : Words → Operands → Words × TermId
at_least w o =
    let p = is_less w o o.left o.right in
    let q = word_not p.0 p.1 in
    truth q.0 q.1

abbrev pub value : Words → Operands → BinaryOp → Words × TermId
value w o operator.OrElse = zero w 64
value w o operator.AndAlso = zero w 64
value w o operator.BitOr = either w o
value w o operator.BitXor = differ w o
value w o operator.BitAnd = both w o
value w o operator.Equal = equal w o
value w o operator.NotEqual = unequal w o
value w o operator.Less = less w o
value w o operator.Greater = greater w o
value w o operator.LessEqual = at_most w o
value w o operator.GreaterEqual = at_least w o
value w o operator.ShiftLeft = shifted_left w o
value w o operator.ShiftRight = shifted_right w o
value w o operator.Add = sum w o
value w o operator.Subtract = difference w o
value w o operator.Multiply = product w o
value w o operator.Divide = quotient w o
value w o operator.Remainder = remainder w o

-- ---- Where operations fail

-- whether a result's sign is not that of the first operand
abbrev pub turns : Words → Operands → TermId → Words × TermId
turns w o low =
    let p = word_top w (bits o) o.left in
    let q = word_top p.0 (bits o) low in
    word_differ q.0 p.1 q.1

abbrev pub sum_overflows : Words → Operands → Words × TermId
sum_overflows w o =
    let p = word_add w o.left o.right in
    let q = signs_differ p.0 o in
    let r = turns q.0 o p.1 in
    let s = word_not r.0 q.1 in
    word_both s.0 s.1 r.1

abbrev pub difference_overflows : Words → Operands → Words × TermId
difference_overflows w o =
    let p = word_subtract w o.left o.right in
    let q = signs_differ p.0 o in
    let r = turns q.0 o p.1 in
    word_both r.0 q.1 r.1

abbrev pub product_overflows : Words → Operands → Words × TermId
product_overflows w o =
    let p = exact_product w o in
    let q = word_truncate p.0 (bits o) p.1 in
    let r = word_extend_sign q.0 (bits o * 2) q.1 in
    let s = word_equal r.0 r.1 p.1 in
    word_not s.0 s.1

abbrev pub divides_by_zero : Words → Operands → Words × TermId
divides_by_zero w o = let p = zero w (bits o) in word_equal p.0 o.right p.1

-- the least value of the signed kind
abbrev pub least : Words → Operands → Words × TermId
least w o = put w (term.Constant (bits o) (2 ^ (bits o - 1)))

abbrev pub quotient_overflows : Words → Operands → Words × TermId
quotient_overflows w o =
    let p = least w o in
    let q = constant_of p.0 (bits o) (negsuc 0) in
    let r = word_equal q.0 o.left p.1 in
    let s = word_equal r.0 o.right q.1 in
    word_both s.0 r.1 s.1

abbrev pub is_far : Words → Operands → Words × TermId
is_far w o =
    let p = put w (term.Constant 64 (bits o)) in
    let q = word_less p.0 o.whole p.1 in
    word_not q.0 q.1

abbrev pub shift_loses : Words → Operands → Words × TermId
shift_loses w o =
    let p = word_shift_left w o.left o.right in
    let q = word_shift_signed p.0 p.1 o.right in
    let r = word_equal q.0 q.1 o.left in
    let s = word_not r.0 r.1 in
    let t = word_top s.0 (bits o) o.left in
    word_either t.0 t.1 s.1

-- a signed left side is tested besides
abbrev pub and_loses : Words → Operands → TermId → Words × TermId
and_loses w o far = let p = shift_loses w o in word_either p.0 far p.1

abbrev pub left_shift_fails : Words → Operands → Words × TermId
left_shift_fails w o = let p = is_far w o in if is_signed o.kind then and_loses p.0 o p.1 else p

abbrev pub negation_overflows : Words → Kind → Model → TermId → Words × TermId
negation_overflows w kind model slot =
    let p = zero w 64 in
    let q = operands p.0 kind model p.1 slot in
    difference_overflows q.0 q.1

-- ---- Tests

abbrev pub overflow_of : Words × TermId → Words × Tests
overflow_of p = (p.0, One (record { kind = Overflow; when = p.1 }))

abbrev pub shift_of : Words × TermId → Words × Tests
shift_of p = (p.0, One (record { kind = Shift; when = p.1 }))

abbrev pub zero_of : Words × TermId → Words × Tests
zero_of p = (p.0, One (record { kind = Zero; when = p.1 }))

abbrev pub division_of : TermId → Words × TermId → Words × Tests
division_of first p = (p.0, Two (record { kind = Zero; when = first }) (record { kind = Overflow; when = p.1 }))

abbrev pub sum_test : Words → Operands → Words × Tests
sum_test w o = if is_signed o.kind then overflow_of (sum_overflows w o) else (w, None)

abbrev pub difference_test : Words → Operands → Words × Tests
difference_test w o = if is_signed o.kind then overflow_of (difference_overflows w o) else (w, None)

abbrev pub product_test : Words → Operands → Words × Tests
product_test w o = if is_signed o.kind then overflow_of (product_overflows w o) else (w, None)

abbrev pub division_tests : Words → Operands → Words × Tests
division_tests w o = let p = divides_by_zero w o in if is_signed o.kind then division_of p.1 (quotient_overflows p.0 o) else zero_of p

abbrev pub left_shift_test : Words → Operands → Words × Tests
left_shift_test w o = shift_of (left_shift_fails w o)

abbrev pub right_shift_test : Words → Operands → Words × Tests
right_shift_test w o = shift_of (is_far w o)

abbrev pub tests : Words → Operands → BinaryOp → Words × Tests
tests w o operator.OrElse = (w, None)
tests w o operator.AndAlso = (w, None)
tests w o operator.BitOr = (w, None)
tests w o operator.BitXor = (w, None)
tests w o operator.BitAnd = (w, None)
tests w o operator.Equal = (w, None)
tests w o operator.NotEqual = (w, None)
tests w o operator.Less = (w, None)
tests w o operator.Greater = (w, None)
tests w o operator.LessEqual = (w, None)
tests w o operator.GreaterEqual = (w, None)
tests w o operator.ShiftLeft = left_shift_test w o
tests w o operator.ShiftRight = right_shift_test w o
tests w o operator.Add = sum_test w o
tests w o operator.Subtract = difference_test w o
tests w o operator.Multiply = product_test w o
tests w o operator.Divide = division_tests w o
tests w o operator.Remainder = division_tests w o
