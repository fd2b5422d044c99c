-- What fits 128 bits, of values of the kinds.
use Rattle.std.proofs.Common.{◌≡◌, ◌∙◌, ap, sym, subst, refl, ℕ, zero, suc, ◌/◌, if◌then◌else◌, lit<, pow_mono, to_z, of_z, ◌<◌, ◌≤◌, ◌^◌, ◌-◌, ℤ, pos, negsuc, ◌+ℤ◌, ◌-ℤ◌, ◌*ℤ◌, ◌≤ℤ◌, FitsSigned, Bool, true, false, arith}
use Rattle.std.specs.Int.{w128}
use Rattle.std.proofs.Math.Nat.{div-le_self}
use Rattle.std.specs.Prelude.{◌&&◌, unsigned_abs, MatchBool, int_le, int_lt, int_div, int_rem, Result, Ok, Err, Some, None}
use Rattle.std.proofs.lemmas.Int.{ints, to_z-of_z, to_z_pos, fits_signed_mul}
use Rattle.lv_base.specs.declared.fault.ErrorKind.{ErrorKind}
use Rattle.lv_base.specs.declared.fault.ErrorKind.TheVariants.{Overflow, Zero, Shift}
use Rattle.lv_base.specs.declared.kind.Kind.{Kind}
use Rattle.lv_base.specs.declared.kind.Kind.TheVariants.{Bool as ABool, Char, UChar, Short, UShort, Int, UInt, Long, ULong, LongLong, ULongLong}
use Rattle.lv_base.specs.declared.kind.Model.{Model}
use Rattle.lv_base.specs.declared.kind.Model.TheVariants.{Ilp32, Lp64}
use Rattle.lv_base.specs.declared.kind.Op.{Op}
use Rattle.lv_base.specs.declared.kind.Op.TheVariants.{Shl}
use Rattle.lv_base.specs.Integers.{least_of, greatest_of, InRange, InAny, IsRight, is_shift, is_signed, is_zero, is_in_range, held, remainder, amount_of, is_amount, exact, converted, left_shift, arith_of}

-- a value of a kind is a value of 64 bits
pub in_any : (kind : Kind) (model : Model) (value : ℤ) → InRange kind model value → InAny value
in_any ABool model value h = (omega (arith, ints), omega (arith, ints))
in_any Char model value h = (omega (arith, ints), omega (arith, ints))
in_any UChar model value h = (omega (arith, ints), omega (arith, ints))
in_any Short model value h = (omega (arith, ints), omega (arith, ints))
in_any UShort model value h = (omega (arith, ints), omega (arith, ints))
in_any Int model value h = (omega (arith, ints), omega (arith, ints))
in_any UInt model value h = (omega (arith, ints), omega (arith, ints))
in_any Long Ilp32 value h = (omega (arith, ints), omega (arith, ints))
in_any Long Lp64 value h = (omega (arith, ints), omega (arith, ints))
in_any ULong Ilp32 value h = (omega (arith, ints), omega (arith, ints))
in_any ULong Lp64 value h = (omega (arith, ints), omega (arith, ints))
in_any LongLong model value h = (omega (arith, ints), omega (arith, ints))
in_any ULongLong model value h = (omega (arith, ints), omega (arith, ints))

-- a value of a signed kind is one of 64 signed bits
pub signed_in_any : (kind : Kind) (model : Model) (value : ℤ) → is_signed kind ≡ true → InRange kind model value → unsigned_abs value ≤ 2 ^ 63
signed_in_any kind model value is h = abs_below value (signed_below kind model value is h).0 (signed_below kind model value is h).1
  where
    signed_below : (kind : Kind) (model : Model) (value : ℤ) → is_signed kind ≡ true → InRange kind model value → (negsuc (2 ^ 63 - 1) ≤ℤ value) × (value ≤ℤ pos (2 ^ 63 - 1))
    signed_below ABool model value is h = cc
    signed_below Char model value is h = (omega (arith, ints), omega (arith, ints))
    signed_below UChar model value is h = cc
    signed_below Short model value is h = (omega (arith, ints), omega (arith, ints))
    signed_below UShort model value is h = cc
    signed_below Int model value is h = (omega (arith, ints), omega (arith, ints))
    signed_below UInt model value is h = cc
    signed_below Long Ilp32 value is h = (omega (arith, ints), omega (arith, ints))
    signed_below Long Lp64 value is h = (omega (arith, ints), omega (arith, ints))
    signed_below ULong model value is h = cc
    signed_below LongLong model value is h = (omega (arith, ints), omega (arith, ints))
    signed_below ULongLong model value is h = cc

    abs_below : (value : ℤ) → negsuc (2 ^ 63 - 1) ≤ℤ value → value ≤ℤ pos (2 ^ 63 - 1) → unsigned_abs value ≤ 2 ^ 63
    abs_below (pos n) low high = omega (arith, ints)
    abs_below (negsuc n) low high = omega (arith, ints)

pub right_in_any : (op : Op) (kind : Kind) (model : Model) (value : ℤ) → IsRight op kind model value → InAny value
right_in_any op kind model value h = by_shift (is_shift op) h
  where
    by_shift : (b : Bool) → MatchBool b (InAny value) (InRange kind model value) → InAny value
    by_shift true h = h
    by_shift false h = in_any kind model value h

pub sum_fits : (a b : ℤ) → InAny a → InAny b → FitsSigned w128 (a +ℤ b)
sum_fits a b ha hb = omega (arith, ints)

pub difference_fits : (a b : ℤ) → InAny a → InAny b → FitsSigned w128 (a -ℤ b)
difference_fits a b ha hb = omega (arith, ints)

abs_any : (value : ℤ) → InAny value → unsigned_abs value ≤ 2 ^ 64 - 1
abs_any (pos n) h = omega (arith, ints)
abs_any (negsuc n) h = omega (arith, ints)

-- a value times a power of two that is no more than 2 ^ 63
pub shifted_fits : (a : ℤ) (p : ℕ) → InAny a → p ≤ 2 ^ 63 → FitsSigned w128 (a *ℤ pos p)
shifted_fits a p ha hp = fits_signed_mul w128 a (pos p) (2 ^ 64 - 1) (2 ^ 63) (abs_any a ha) hp (lit< tt)

-- a product of two signed values of 64 bits
pub product_fits : (a b : ℤ) → unsigned_abs a ≤ 2 ^ 63 → unsigned_abs b ≤ 2 ^ 63 → FitsSigned w128 (a *ℤ b)
product_fits a b ha hb = fits_signed_mul w128 a b (2 ^ 63) (2 ^ 63) ha hb (lit< tt)

pub below_power : (k : ℕ) → k < 64 → 2 ^ k ≤ 2 ^ 63
below_power k h = pow_mono {j = 63} (omega arith)

-- the product of a value and a power of two that is a shift's amount
pub shift_is : (kind : Kind) (model : Model) (left right : ℤ) (k p : ℕ) → Some k ≡ amount_of kind model (to_z w128 (of_z w128 right)) → FitsSigned w128 right → (is_amount kind model right ≡ true) × (unsigned_abs right ≡ k)
shift_is kind model left right k p e f = by_test (is_amount kind model right) (simp to_z-of_z at e)
  where
    by_test : (b : Bool) → Some k ≡ (if b then Some (unsigned_abs right) else None) → (b ≡ true) × (unsigned_abs right ≡ k)
    by_test true e = (refl, cc)
    by_test false e = cc

-- what a left shift in the code, whose operands are these, answers
pub shifted_product : (left : ℤ) (p k amount : ℕ) → p ≡ 2 ^ k → k < 64 → InAny left → FitsSigned w128 left → amount ≡ k → to_z w128 (of_z w128 (to_z w128 (of_z w128 left) *ℤ to_z w128 p)) ≡ left *ℤ pos (2 ^ amount)
shifted_product left p k amount is small any fits same =
    let le : p ≤ 2 ^ 63 = rw is (below_power k small) in
    let plain : to_z w128 p ≡ pos p = to_z_pos w128 p (omega arith) in
    let fit : FitsSigned w128 (left *ℤ pos p) = shifted_fits left p any le in
    rw (plain, to_z-of_z w128 left fits, to_z-of_z w128 (left *ℤ pos p) fit, is, same) refl

pub product_is : (a b : ℤ) → FitsSigned w128 a → FitsSigned w128 b → FitsSigned w128 (a *ℤ b) → to_z w128 (of_z w128 (to_z w128 (of_z w128 a) *ℤ to_z w128 (of_z w128 b))) ≡ a *ℤ b
product_is a b fa fb fab = rw (to_z-of_z w128 a fa, to_z-of_z w128 b fb, to_z-of_z w128 (a *ℤ b) fab) refl

pub shl_unsigned : (kind : Kind) (model : Model) (left right : ℤ) (value : ℤ) → is_amount kind model right ≡ true → is_signed kind ≡ false → value ≡ converted kind model (left *ℤ pos (2 ^ unsigned_abs right)) → Ok value ≡ arith_of Shl kind model left right
shl_unsigned kind model left right value amount signed e =
    let shifted : ℤ = left *ℤ pos (2 ^ unsigned_abs right) in
    let outer = ap (λ (b : Bool). if b then left_shift kind model left (unsigned_abs right) else Err Shift) amount in
    let middle = ap (λ (b : Bool). if b then (if int_lt left (pos 0) then Err Shift else held kind model Shift shifted) else Ok (converted kind model shifted)) signed in
    ap Ok e ∙ sym (outer ∙ middle)

pub product_signed : (kind : Kind) (model : Model) (z : ℤ) (r : Result ℤ ErrorKind) → is_signed kind ≡ true → r ≡ held kind model Overflow z → r ≡ exact kind model z
product_signed kind model z r signed e = e ∙ sym (ap (λ (b : Bool). if b then held kind model Overflow z else Ok (converted kind model z)) signed)

nonzero : (d : ℤ) → (of_z w128 d ≡ 0 → ⊥) → is_zero d ≡ false
nonzero (pos zero) h = absurd (h refl)
nonzero (pos (suc d)) h = grind arith
nonzero (negsuc d) h = refl

-- what a remainder in the code answers, whose operands are these
pub rest_is : (kind : Kind) (model : Model) (left right q r : ℤ) (b : Bool) → FitsSigned w128 left → FitsSigned w128 right → FitsSigned w128 q → FitsSigned w128 r → (of_z w128 right ≡ 0 → ⊥) →
    q ≡ int_div (to_z w128 (of_z w128 left)) (to_z w128 (of_z w128 right)) → r ≡ int_rem (to_z w128 (of_z w128 left)) (to_z w128 (of_z w128 right)) → b ≡ is_in_range kind model (to_z w128 (of_z w128 q)) → b ≡ true → Ok (to_z w128 (of_z w128 r)) ≡ remainder kind model left right
rest_is kind model left right q r b fl fr fq fs some hq hr test holds =
    let q_is : q ≡ int_div left right = hq ∙ (ap (λ (z : ℤ). int_div z (to_z w128 (of_z w128 right))) (to_z-of_z w128 left fl) ∙ ap (int_div left) (to_z-of_z w128 right fr)) in
    let r_is : r ≡ int_rem left right = hr ∙ (ap (λ (z : ℤ). int_rem z (to_z w128 (of_z w128 right))) (to_z-of_z w128 left fl) ∙ ap (int_rem left) (to_z-of_z w128 right fr)) in
    let within : is_in_range kind model (int_div left right) ≡ true = ap (is_in_range kind model) (sym (to_z-of_z w128 q fq ∙ q_is)) ∙ (sym test ∙ holds) in
    let outer = ap (λ (t : Bool). if t then Err Zero else if is_in_range kind model (int_div left right) then Ok (int_rem left right) else Err Overflow) (nonzero right some) in
    let inner = ap (λ (t : Bool). if t then Ok (int_rem left right) else Err Overflow) within in
    ap Ok (to_z-of_z w128 r fs ∙ r_is) ∙ sym (outer ∙ inner)

least_below : (kind : Kind) (model : Model) → least_of kind model ≤ℤ pos 0
least_below ABool model = omega (arith, ints)
least_below Char model = omega (arith, ints)
least_below UChar model = omega (arith, ints)
least_below Short model = omega (arith, ints)
least_below UShort model = omega (arith, ints)
least_below Int model = omega (arith, ints)
least_below UInt model = omega (arith, ints)
least_below Long Ilp32 = omega (arith, ints)
least_below Long Lp64 = omega (arith, ints)
least_below ULong Ilp32 = omega (arith, ints)
least_below ULong Lp64 = omega (arith, ints)
least_below LongLong model = omega (arith, ints)
least_below ULongLong model = omega (arith, ints)

-- a quotient of operands that are not negative is no greater than the dividend
pub quotient_within : (kind : Kind) (model : Model) (left right : ℤ) → InRange kind model left → pos 0 ≤ℤ left → pos 0 ≤ℤ right → is_in_range kind model (int_div left right) ≡ true
quotient_within kind model (pos a) (pos d) h above right_above = by_bounds (least_of kind model) (greatest_of kind model) (a / d) (least_below kind model) h.1 (div-le_self a d)
  where
    by_bounds : (least greatest : ℤ) (q : ℕ) → least ≤ℤ pos 0 → pos a ≤ℤ greatest → q ≤ a → (int_le least (pos q) && int_le (pos q) greatest) ≡ true
    by_bounds least greatest q low high less = both (int_le least (pos q)) (int_le (pos q) greatest) refl refl
      where
        both : (s t : Bool) → s ≡ int_le least (pos q) → t ≡ int_le (pos q) greatest → (s && t) ≡ true
        both true true s t = refl
        both true false s t = grind (arith, ints)
        both false true s t = grind (arith, ints)
        both false false s t = grind (arith, ints)
quotient_within kind model (pos a) (negsuc d) h above right_above = grind (arith, ints)
quotient_within kind model (negsuc a) (pos d) h above right_above = grind (arith, ints)
quotient_within kind model (negsuc a) (negsuc d) h above right_above = grind (arith, ints)

-- what a remainder in the code answers whose operands, these, are not negative
pub positive_rest : (kind : Kind) (model : Model) (left right r : ℤ) → FitsSigned w128 left → FitsSigned w128 right → FitsSigned w128 r → (of_z w128 right ≡ 0 → ⊥) → InRange kind model left →
    (pos 0 ≤ℤ to_z w128 (of_z w128 left)) × (pos 0 ≤ℤ to_z w128 (of_z w128 right)) → r ≡ int_rem (to_z w128 (of_z w128 left)) (to_z w128 (of_z w128 right)) → Ok (to_z w128 (of_z w128 r)) ≡ remainder kind model left right
positive_rest kind model left right r fl fr fs some h above hr =
    let left_above : pos 0 ≤ℤ left = subst (λ (z : ℤ). pos 0 ≤ℤ z) (to_z-of_z w128 left fl) above.0 in
    let right_above : pos 0 ≤ℤ right = subst (λ (z : ℤ). pos 0 ≤ℤ z) (to_z-of_z w128 right fr) above.1 in
    let r_is : r ≡ int_rem left right = hr ∙ (ap (λ (z : ℤ). int_rem z (to_z w128 (of_z w128 right))) (to_z-of_z w128 left fl) ∙ ap (int_rem left) (to_z-of_z w128 right fr)) in
    let outer = ap (λ (t : Bool). if t then Err Zero else if is_in_range kind model (int_div left right) then Ok (int_rem left right) else Err Overflow) (nonzero right some) in
    let inner = ap (λ (t : Bool). if t then Ok (int_rem left right) else Err Overflow) (quotient_within kind model left right h left_above right_above) in
    ap Ok (to_z-of_z w128 r fs ∙ r_is) ∙ sym (outer ∙ inner)
