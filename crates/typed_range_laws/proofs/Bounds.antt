-- Numbers in the range of a kind.
use Rattle.std.proofs.Common.{sym, subst, zero, suc, ◌%◌, neg_ℤ, ◌≡◌, refl, ◌+◌, ℕ, ◌<◌, ◌≤◌, ◌^◌, ◌-◌, ℤ, pos, negsuc, ◌≤ℤ◌, Bool, true, false, arith, if◌then◌else◌, lit<}
use Rattle.std.specs.Prelude.{nat_lt, IfOk, Result, Ok, Err, unsigned_abs, int_le, int_rem, ◌&&◌}
use Rattle.std.specs.Int.{int_div_euclid}
use Rattle.std.proofs.Math.Nat.{div-le_self, mod-le}
use Rattle.std.proofs.lemmas.Int.{ints}
use Rattle.std.proofs.lemmas.Bool.Decides.{nat_tests}
use Rattle.lv_base.specs.declared.kind.Kind.{Kind}
use Rattle.lv_base.specs.declared.kind.Kind.TheVariants.{Bool as ABool, Char, UChar, Short, UShort, Int, UInt, Long, ULong, LongLong, ULongLong}
use Rattle.lv_base.specs.declared.kind.Model.{Model}
use Rattle.lv_base.specs.declared.kind.Model.TheVariants.{Ilp32, Lp64}
use Rattle.lv_base.specs.declared.fault.ErrorKind.{ErrorKind}
use Rattle.lv_base.specs.Integers.{InRange, InAny, wrapped, width_of, truth, least_of, greatest_of, held}

low_signed : (b : Bool) (bits low : ℕ) (half : ℕ) → 0 < half → 2 ^ bits ≡ half + half → low < 2 ^ bits → b ≡ nat_lt low half → (negsuc (half - 1) ≤ℤ (if b then pos low else negsuc (2 ^ bits - 1 - low))) × ((if b then pos low else negsuc (2 ^ bits - 1 - low)) ≤ℤ pos (half - 1))
low_signed true bits low half some is small test = (omega (arith, ints), grind (arith, ints, nat_tests))
low_signed false bits low half some is small test = (grind (arith, ints, nat_tests), omega (arith, ints))

-- the number of some bits in two's complement is one of its kind
pub wrapped_in_range : (kind : Kind) (model : Model) (low : ℕ) → low < 2 ^ width_of kind model → InRange kind model (wrapped kind model low)
wrapped_in_range ABool model low h = (omega (arith, ints), omega (arith, ints))
wrapped_in_range Char model low h = low_signed _ 8 low (2 ^ 7) (lit< tt) refl h refl
wrapped_in_range UChar model low h = (omega (arith, ints), omega (arith, ints))
wrapped_in_range Short model low h = low_signed _ 16 low (2 ^ 15) (lit< tt) refl h refl
wrapped_in_range UShort model low h = (omega (arith, ints), omega (arith, ints))
wrapped_in_range Int model low h = low_signed _ 32 low (2 ^ 31) (lit< tt) refl h refl
wrapped_in_range UInt model low h = (omega (arith, ints), omega (arith, ints))
wrapped_in_range Long Ilp32 low h = low_signed _ 32 low (2 ^ 31) (lit< tt) refl h refl
wrapped_in_range Long Lp64 low h = low_signed _ 64 low (2 ^ 63) (lit< tt) refl h refl
wrapped_in_range ULong Ilp32 low h = (omega (arith, ints), omega (arith, ints))
wrapped_in_range ULong Lp64 low h = (omega (arith, ints), omega (arith, ints))
wrapped_in_range LongLong model low h = low_signed _ 64 low (2 ^ 63) (lit< tt) refl h refl
wrapped_in_range ULongLong model low h = (omega (arith, ints), omega (arith, ints))

pub least_below : (kind : Kind) (model : Model) → least_of kind model ≤ℤ pos 0
least_below ABool model = omega (arith, ints)
least_below Char model = omega (arith, ints)
least_below UChar model = omega (arith, ints)
least_below Short model = omega (arith, ints)
least_below UShort model = omega (arith, ints)
least_below Int model = omega (arith, ints)
least_below UInt model = omega (arith, ints)
least_below Long Ilp32 = omega (arith, ints)
least_below Long Lp64 = omega (arith, ints)
least_below ULong Ilp32 = omega (arith, ints)
least_below ULong Lp64 = omega (arith, ints)
least_below LongLong model = omega (arith, ints)
least_below ULongLong model = omega (arith, ints)

pub greatest_above : (kind : Kind) (model : Model) → pos 1 ≤ℤ greatest_of kind model
greatest_above ABool model = omega (arith, ints)
greatest_above Char model = omega (arith, ints)
greatest_above UChar model = omega (arith, ints)
greatest_above Short model = omega (arith, ints)
greatest_above UShort model = omega (arith, ints)
greatest_above Int model = omega (arith, ints)
greatest_above UInt model = omega (arith, ints)
greatest_above Long Ilp32 = omega (arith, ints)
greatest_above Long Lp64 = omega (arith, ints)
greatest_above ULong Ilp32 = omega (arith, ints)
greatest_above ULong Lp64 = omega (arith, ints)
greatest_above LongLong model = omega (arith, ints)
greatest_above ULongLong model = omega (arith, ints)

-- the second value lies between the first and 0
pub data Toward (from to : ℤ) : Type 0 where
  down : pos 0 ≤ℤ to → to ≤ℤ from → Toward from to
  up : from ≤ℤ to → to ≤ℤ pos 0 → Toward from to

toward_in_range : (kind : Kind) (model : Model) (from to : ℤ) → InRange kind model from → Toward from to → InRange kind model to
toward_in_range kind model from to h (down above below) =
    let low : least_of kind model ≤ℤ pos 0 = least_below kind model in
    by_bounds (least_of kind model) (greatest_of kind model) low h.1 above below
  where
    by_bounds : (least greatest : ℤ) → least ≤ℤ pos 0 → from ≤ℤ greatest → pos 0 ≤ℤ to → to ≤ℤ from → (least ≤ℤ to) × (to ≤ℤ greatest)
    by_bounds least greatest low high above below = (omega (arith, ints), omega (arith, ints))
toward_in_range kind model from to h (up above below) =
    by_bounds (least_of kind model) (greatest_of kind model) (greatest_above kind model) h.0 above below
  where
    by_bounds : (least greatest : ℤ) → pos 1 ≤ℤ greatest → least ≤ℤ from → from ≤ℤ to → to ≤ℤ pos 0 → (least ≤ℤ to) × (to ≤ℤ greatest)
    by_bounds least greatest high low above below = (omega (arith, ints), omega (arith, ints))

neg_between : (a r : ℕ) → r ≤ suc a → Toward (negsuc a) (neg_ℤ (pos r))
neg_between a zero h = up (omega (arith, ints)) (omega (arith, ints))
neg_between a (suc r) h = up (omega (arith, ints)) (omega (arith, ints))

rem_toward : (a d : ℤ) → Toward a (int_rem a d)
rem_toward (pos a) d = down (omega (arith, ints)) (omega (arith, ints, mod-le a (unsigned_abs d)))
rem_toward (negsuc a) d = neg_between a (suc a % unsigned_abs d) (mod-le (suc a) (unsigned_abs d))

shr_toward : (a : ℤ) (k : ℕ) → Toward a (int_div_euclid a (pos (2 ^ k)))
shr_toward (pos a) k = down (omega (arith, ints)) (omega (arith, ints, div-le_self a (2 ^ k)))
shr_toward (negsuc a) k = up (omega (arith, ints, div-le_self a (2 ^ k))) (omega (arith, ints))

pub rem_in_range : (kind : Kind) (model : Model) (a d : ℤ) → InRange kind model a → InRange kind model (int_rem a d)
rem_in_range kind model a d h = toward_in_range kind model a (int_rem a d) h (rem_toward a d)

pub shr_in_range : (kind : Kind) (model : Model) (a : ℤ) (k : ℕ) → InRange kind model a → InRange kind model (int_div_euclid a (pos (2 ^ k)))
shr_in_range kind model a k h = toward_in_range kind model a (int_div_euclid a (pos (2 ^ k))) h (shr_toward a k)

pub truth_in_range : (kind : Kind) (model : Model) (b : Bool) → InRange kind model (truth b)
truth_in_range kind model true = (omega (arith, ints, least_below kind model), greatest_above kind model)
truth_in_range kind model false = (least_below kind model, omega (arith, ints, greatest_above kind model))

pub held_in_range : (kind : Kind) (model : Model) (error : ErrorKind) (z : ℤ) (r : Result ℤ ErrorKind) → r ≡ held kind model error z → IfOk r (λ v. InRange kind model v)
held_in_range kind model error z r e = subst (λ (x : Result ℤ ErrorKind). IfOk x (λ v. InRange kind model v)) (sym e) (by_tests (least_of kind model) (greatest_of kind model))
  where
    by_tests : (least greatest : ℤ) → IfOk (if int_le least z && int_le z greatest then Ok z else Err error) (λ v. (least ≤ℤ v) × (v ≤ℤ greatest))
    by_tests least greatest = both (int_le least z) (int_le z greatest) refl refl
      where
        both : (p q : Bool) → p ≡ int_le least z → q ≡ int_le z greatest → IfOk (if p && q then Ok z else Err error) (λ v. (least ≤ℤ v) × (v ≤ℤ greatest))
        both true true p q = (grind (arith, ints), grind (arith, ints))
        both true false p q = tt
        both false true p q = tt
        both false false p q = tt

-- a value of a kind is a value of 64 bits
pub in_any : (kind : Kind) (model : Model) (value : ℤ) → InRange kind model value → InAny value
in_any ABool model value h = (omega (arith, ints), omega (arith, ints))
in_any Char model value h = (omega (arith, ints), omega (arith, ints))
in_any UChar model value h = (omega (arith, ints), omega (arith, ints))
in_any Short model value h = (omega (arith, ints), omega (arith, ints))
in_any UShort model value h = (omega (arith, ints), omega (arith, ints))
in_any Int model value h = (omega (arith, ints), omega (arith, ints))
in_any UInt model value h = (omega (arith, ints), omega (arith, ints))
in_any Long Ilp32 value h = (omega (arith, ints), omega (arith, ints))
in_any Long Lp64 value h = (omega (arith, ints), omega (arith, ints))
in_any ULong Ilp32 value h = (omega (arith, ints), omega (arith, ints))
in_any ULong Lp64 value h = (omega (arith, ints), omega (arith, ints))
in_any LongLong model value h = (omega (arith, ints), omega (arith, ints))
in_any ULongLong model value h = (omega (arith, ints), omega (arith, ints))

-- a value of a signed kind is one of 64 signed bits
