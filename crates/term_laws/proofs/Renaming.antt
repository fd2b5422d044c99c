-- Terms whose operands are others of the same widths and values.
use Rattle.std.proofs.Common.{◌≡◌, ℕ, ◌+◌, ◌==◌, ◌%◌, ◌^◌, List, refl, sym, ap, ◌∙◌, arith, slice_index, nat_lt, bit_and, bit_or, bit_xor, if◌then◌else◌}
use Rattle.bv_term.specs.declared.term.TermId.{TermId}
use Rattle.bv_term.specs.declared.term.Term.{Term}
use Rattle.bv_term.specs.declared.term.Term.TheVariants.{Constant, Cell, Element, Add, Subtract, Multiply, Divide, Remainder, And, Or, Xor, Not, ShiftLeft, ShiftRight, ShiftSigned, Equal, Less, LessSigned, Select, ZeroExtend, SignExtend, Truncate, Bit}
use Rattle.bv_term.specs.Numbers.{sum_in, difference_in, product_in, quotient_of, remainder_of, complement_in, left_in, right_in, signed_right_in, raised, truth, sign_extended, bit_of}
use Rattle.bv_term.specs.WellFormed.{Fits, width_in, AreAlike}
use Rattle.bv_term.specs.Values.{value_in}
use Rattle.term_laws.specs.Operands.{Follows, OnOperands, renamed}

alike : (f : TermId → TermId) (old new : List ℕ) (i j : TermId) → Follows f old new i × Follows f old new j → AreAlike old i j
    → AreAlike new (f i) (f j)
alike f old new i j p h = (p.0.there, p.1.there, p.0.same ∙ h.2 ∙ sym p.1.same)

pub fits : (f : TermId → TermId) (cells old new : List ℕ) (u : Term) → OnOperands (Follows f old new) u → Fits cells old u
    → Fits cells new (renamed f u)
fits f cells old new (Constant w v) p h = h
fits f cells old new (Cell c) p h = h
fits f cells old new (Element first n i) p h = (h.0, p.there)
fits f cells old new (Add i j) p h = alike f old new i j p h
fits f cells old new (Subtract i j) p h = alike f old new i j p h
fits f cells old new (Multiply i j) p h = alike f old new i j p h
fits f cells old new (Divide i j) p h = alike f old new i j p h
fits f cells old new (Remainder i j) p h = alike f old new i j p h
fits f cells old new (And i j) p h = alike f old new i j p h
fits f cells old new (Or i j) p h = alike f old new i j p h
fits f cells old new (Xor i j) p h = alike f old new i j p h
fits f cells old new (Not i) p h = p.there
fits f cells old new (ShiftLeft i j) p h = alike f old new i j p h
fits f cells old new (ShiftRight i j) p h = alike f old new i j p h
fits f cells old new (ShiftSigned i j) p h = alike f old new i j p h
fits f cells old new (Equal i j) p h = alike f old new i j p h
fits f cells old new (Less i j) p h = alike f old new i j p h
fits f cells old new (LessSigned i j) p h = alike f old new i j p h
fits f cells old new (Select i j k) p h = (p.0.there, p.0.same ∙ h.1, alike f old new j k (p.1, p.2) h.2)
fits f cells old new (ZeroExtend w i) p h = (p.there, h.1, omega (arith, p.same, h.2))
fits f cells old new (SignExtend w i) p h = (p.there, h.1, omega (arith, p.same, h.2))
fits f cells old new (Truncate w i) p h = (p.there, h.1, omega (arith, p.same, h.2))
fits f cells old new (Bit n i) p h = (p.there, omega (arith, p.same, h.1))

pub width : (f : TermId → TermId) (cells old new : List ℕ) (u : Term) → OnOperands (Follows f old new) u
    → width_in cells new (renamed f u) ≡ width_in cells old u
width f cells old new (Constant w v) p = refl
width f cells old new (Cell c) p = refl
width f cells old new (Element first n i) p = refl
width f cells old new (Add i j) p = p.0.same
width f cells old new (Subtract i j) p = p.0.same
width f cells old new (Multiply i j) p = p.0.same
width f cells old new (Divide i j) p = p.0.same
width f cells old new (Remainder i j) p = p.0.same
width f cells old new (And i j) p = p.0.same
width f cells old new (Or i j) p = p.0.same
width f cells old new (Xor i j) p = p.0.same
width f cells old new (Not i) p = p.same
width f cells old new (ShiftLeft i j) p = p.0.same
width f cells old new (ShiftRight i j) p = p.0.same
width f cells old new (ShiftSigned i j) p = p.0.same
width f cells old new (Equal i j) p = refl
width f cells old new (Less i j) p = refl
width f cells old new (LessSigned i j) p = refl
width f cells old new (Select i j k) p = p.1.same
width f cells old new (ZeroExtend w i) p = refl
width f cells old new (SignExtend w i) p = refl
width f cells old new (Truncate w i) p = refl
width f cells old new (Bit n i) p = refl

two : (g : ℕ → ℕ → ℕ) (a b c d : ℕ) → a ≡ b → c ≡ d → g a c ≡ g b d
two g a b c d p q = ap (λ x. g x c) p ∙ ap (g b) q

three : (g : ℕ → ℕ → ℕ → ℕ) (a b c d x y : ℕ) → a ≡ b → c ≡ d → x ≡ y → g a c x ≡ g b d y
three g a b c d x y p q r = ap (λ z. g z c x) p ∙ two (g b) c d x y q r

pub value : (f : TermId → TermId) (store old new past now : List ℕ) (u : Term) → OnOperands (Follows f old new) u
    → OnOperands (λ i. slice_index now (f i).0 ≡ slice_index past i.0) u → value_in store new now (renamed f u) ≡ value_in store old past u
value f store old new past now (Constant w v) p q = refl
value f store old new past now (Cell c) p q = refl
value f store old new past now (Element first n i) p q = ap (λ x. if nat_lt x n then slice_index store (first + x) else 0) q
value f store old new past now (Add i j) p q = three sum_in _ _ _ _ _ _ p.0.same q.0 q.1
value f store old new past now (Subtract i j) p q = three difference_in _ _ _ _ _ _ p.0.same q.0 q.1
value f store old new past now (Multiply i j) p q = three product_in _ _ _ _ _ _ p.0.same q.0 q.1
value f store old new past now (Divide i j) p q = two quotient_of _ _ _ _ q.0 q.1
value f store old new past now (Remainder i j) p q = two remainder_of _ _ _ _ q.0 q.1
value f store old new past now (And i j) p q = two bit_and _ _ _ _ q.0 q.1
value f store old new past now (Or i j) p q = two bit_or _ _ _ _ q.0 q.1
value f store old new past now (Xor i j) p q = two bit_xor _ _ _ _ q.0 q.1
value f store old new past now (Not i) p q = two complement_in _ _ _ _ p.same q
value f store old new past now (ShiftLeft i j) p q = three left_in _ _ _ _ _ _ p.0.same q.0 q.1
value f store old new past now (ShiftRight i j) p q = three right_in _ _ _ _ _ _ p.0.same q.0 q.1
value f store old new past now (ShiftSigned i j) p q = three signed_right_in _ _ _ _ _ _ p.0.same q.0 q.1
value f store old new past now (Equal i j) p q = two (λ x y. truth (x == y)) _ _ _ _ q.0 q.1
value f store old new past now (Less i j) p q = two (λ x y. truth (nat_lt x y)) _ _ _ _ q.0 q.1
value f store old new past now (LessSigned i j) p q = three (λ w x y. truth (nat_lt (raised w x) (raised w y))) _ _ _ _ _ _ p.0.same q.0 q.1
value f store old new past now (Select i j k) p q = three (λ x y z. if x == 1 then y else z) _ _ _ _ _ _ q.0 q.1 q.2
value f store old new past now (ZeroExtend w i) p q = q
value f store old new past now (SignExtend w i) p q = two (λ x y. sign_extended x w y) _ _ _ _ p.same q
value f store old new past now (Truncate w i) p q = ap (λ x. x % 2 ^ w) q
value f store old new past now (Bit n i) p q = ap (bit_of n) q
