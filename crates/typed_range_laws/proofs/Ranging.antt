-- Results of operations are values of their kinds, and where the operands are the tests of a guarded operation hold.
use Rattle.std.proofs.Common.{◌≡◌, ℕ, ◌-◌, ◌^◌, ◌%◌, ◌<◌, Bool, true, false, Result, Ok, Err, ℤ, pos, negsuc, ◌≤ℤ◌, ◌+ℤ◌, ◌-ℤ◌, ◌*ℤ◌, refl, ap, subst, arith, if◌then◌else◌}
use Rattle.std.specs.Prelude.{unsigned_abs, int_le, int_lt, int_div, int_rem, ◌&&◌, IfOk, MatchBool, bit_and, bit_or, bit_xor}
use Rattle.std.proofs.lemmas.Int.{ints}
use Rattle.std.proofs.Math.Nat.{mod-lt}
use Rattle.std.specs.Int.Bits.{and_lt}
use Rattle.std.proofs.lemmas.Nat.{or_lt, xor_lt}
use Rattle.std.proofs.Math.Pow.{pow_pos}
use Rattle.lv_base.specs.declared.kind.Kind.{Kind}
use Rattle.lv_base.specs.declared.kind.Kind.TheVariants.{Bool as ABool, Char, UChar, Short, UShort, Int, UInt, Long, ULong, LongLong, ULongLong}
use Rattle.lv_base.specs.declared.kind.Model.{Model}
use Rattle.lv_base.specs.declared.kind.Op.{Op}
use Rattle.lv_base.specs.declared.kind.Op.TheVariants as op
use Rattle.lv_base.specs.declared.fault.ErrorKind.{ErrorKind}
use Rattle.lv_base.specs.declared.fault.ErrorKind.TheVariants as error
use Rattle.lv_base.specs.Integers.{InRange, InAny, IsRight, is_in_range, is_promoted, is_shift, is_signed, is_zero, is_amount, width_of, residue, converted, held, exact, left_shift, right_shift, bitwise, arith_of, least_of, greatest_of}
use Rattle.typed_range_laws.proofs.Bounds.{wrapped_in_range, rem_in_range, shr_in_range, truth_in_range, held_in_range}
use Rattle.typed_range_laws.specs.Guards.{is_any, guarded}

le_test : (a b : ℤ) → a ≤ℤ b → int_le a b ≡ true
le_test a b h = grind (arith, ints)

both_true : (a b : Bool) → a ≡ true → b ≡ true → (a && b) ≡ true
both_true true b x y = y
both_true false b x y = absurd cc

pub in_range_test : (kind : Kind) (model : Model) (v : ℤ) → InRange kind model v → is_in_range kind model v ≡ true
in_range_test kind model v h = both_true _ _ (le_test (least_of kind model) v h.0) (le_test v (greatest_of kind model) h.1)

any_test : (v : ℤ) → InAny v → is_any v ≡ true
any_test v h = both_true _ _ (le_test (negsuc (2 ^ 63 - 1)) v h.0) (le_test v (pos (2 ^ 64 - 1)) h.1)

right_test : (b : Bool) (kind : Kind) (model : Model) (v : ℤ) → MatchBool b (InAny v) (InRange kind model v) → (if b then is_any v else is_in_range kind model v) ≡ true
right_test true kind model v h = any_test v h
right_test false kind model v h = in_range_test kind model v h

-- the tests hold of such operands
pub guard_open : (o : Op) (kind : Kind) (model : Model) (x y : ℤ) → is_promoted kind ≡ true → InRange kind model x → IsRight o kind model y → guarded model o kind x y ≡ arith_of o kind model x y
guard_open o kind model x y p h r =
    ap (λ b. if b then arith_of o kind model x y else Err error.Overflow) (both_true _ _ p (both_true _ _ (in_range_test kind model x h) (right_test (is_shift o) kind model y r)))

-- ---- Results

residue_small : (bits : ℕ) (v : ℤ) → residue bits v < 2 ^ bits
residue_small bits (pos a) = mod-lt a (pow_pos bits)
residue_small bits (negsuc a) = let h : a % 2 ^ bits < 2 ^ bits = mod-lt a (pow_pos bits) in omega (arith, h)

pub converted_in_range : (kind : Kind) (model : Model) (v : ℤ) → InRange kind model (converted kind model v)
converted_in_range ABool model v = bool (is_zero v)
  where
    bool : (b : Bool) → InRange ABool model (if b then pos 0 else pos 1)
    bool true = truth_in_range ABool model false
    bool false = truth_in_range ABool model true
converted_in_range Char model v = wrapped_in_range Char model (residue (width_of Char model) v) (residue_small (width_of Char model) v)
converted_in_range UChar model v = wrapped_in_range UChar model (residue (width_of UChar model) v) (residue_small (width_of UChar model) v)
converted_in_range Short model v = wrapped_in_range Short model (residue (width_of Short model) v) (residue_small (width_of Short model) v)
converted_in_range UShort model v = wrapped_in_range UShort model (residue (width_of UShort model) v) (residue_small (width_of UShort model) v)
converted_in_range Int model v = wrapped_in_range Int model (residue (width_of Int model) v) (residue_small (width_of Int model) v)
converted_in_range UInt model v = wrapped_in_range UInt model (residue (width_of UInt model) v) (residue_small (width_of UInt model) v)
converted_in_range Long model v = wrapped_in_range Long model (residue (width_of Long model) v) (residue_small (width_of Long model) v)
converted_in_range ULong model v = wrapped_in_range ULong model (residue (width_of ULong model) v) (residue_small (width_of ULong model) v)
converted_in_range LongLong model v = wrapped_in_range LongLong model (residue (width_of LongLong model) v) (residue_small (width_of LongLong model) v)
converted_in_range ULongLong model v = wrapped_in_range ULongLong model (residue (width_of ULongLong model) v) (residue_small (width_of ULongLong model) v)

module _ (kind : Kind) (model : Model) where
  abbrev Fine : Result ℤ ErrorKind → Type 0
  Fine r = IfOk r (λ v. InRange kind model v)

  held_fine : (e : ErrorKind) (v : ℤ) → Fine (held kind model e v)
  held_fine e v = held_in_range kind model e v (held kind model e v) refl

  chosen_fine : (b : Bool) (r s : Result ℤ ErrorKind) → Fine r → Fine s → Fine (if b then r else s)
  chosen_fine true r s h k = h
  chosen_fine false r s h k = k

  exact_fine : (v : ℤ) → Fine (exact kind model v)
  exact_fine v = chosen_fine (is_signed kind) (held kind model error.Overflow v) (Ok (converted kind model v)) (held_fine error.Overflow v) (converted_in_range kind model v)

  -- the low bits of two numbers, joined
  bits_fine : (f : ℕ → ℕ → ℕ) → ((a b n : ℕ) → a < 2 ^ n → b < 2 ^ n → f a b < 2 ^ n) → (x y : ℤ) → Fine (Ok (bitwise f kind model x y))
  bits_fine f h x y =
      wrapped_in_range kind model (f (residue (width_of kind model) x) (residue (width_of kind model) y)) (h (residue (width_of kind model) x) (residue (width_of kind model) y) (width_of kind model) (residue_small (width_of kind model) x) (residue_small (width_of kind model) y))

  pub arith_fine : (o : Op) (x y : ℤ) → InRange kind model x → IfOk (arith_of o kind model x y) (λ v. InRange kind model v)
  arith_fine op.Add x y h = exact_fine (x +ℤ y)
  arith_fine op.Sub x y h = exact_fine (x -ℤ y)
  arith_fine op.Mul x y h = exact_fine (x *ℤ y)
  arith_fine op.Div x y h = chosen_fine (is_zero y) (Err error.Zero) (held kind model error.Overflow (int_div x y)) tt (held_fine error.Overflow (int_div x y))
  arith_fine op.Rem x y h =
      chosen_fine (is_zero y) (Err error.Zero) (if is_in_range kind model (int_div x y) then Ok (int_rem x y) else Err error.Overflow) tt
      (chosen_fine (is_in_range kind model (int_div x y)) (Ok (int_rem x y)) (Err error.Overflow) (rem_in_range kind model x y h) tt)
  arith_fine op.Shl x y h =
      let shifted : ℤ = x *ℤ pos (2 ^ unsigned_abs y) in
      chosen_fine (is_amount kind model y) (left_shift kind model x (unsigned_abs y)) (Err error.Shift)
      (chosen_fine (is_signed kind) (if int_lt x (pos 0) then Err error.Shift else held kind model error.Shift shifted) (Ok (converted kind model shifted))
      (chosen_fine (int_lt x (pos 0)) (Err error.Shift) (held kind model error.Shift shifted) tt (held_fine error.Shift shifted)) (converted_in_range kind model shifted)) tt
  arith_fine op.Shr x y h = chosen_fine (is_amount kind model y) (Ok (right_shift x (unsigned_abs y))) (Err error.Shift) (shr_in_range kind model x (unsigned_abs y) h) tt
  arith_fine op.And x y h = bits_fine bit_and (λ a b n. and_lt n a b) x y
  arith_fine op.Or x y h = bits_fine bit_or (λ a b n. or_lt n a b) x y
  arith_fine op.Xor x y h = bits_fine bit_xor (λ a b n. xor_lt n a b) x y
  arith_fine op.Less x y h = truth_in_range kind model (int_lt x y)
  arith_fine op.LessEqual x y h = truth_in_range kind model (int_le x y)
  arith_fine op.Equal x y h = truth_in_range kind model (int_le x y && int_le y x)

-- a value whose range was tested
pub tested_in_range : (kind : Kind) (model : Model) (v : ℤ) → is_in_range kind model v ≡ true → InRange kind model v
tested_in_range kind model v e =
    subst (λ (r : Result ℤ ErrorKind). IfOk r (λ w. InRange kind model w)) (ap (λ b. if b then Ok v else Err error.Overflow) e) (held_in_range kind model error.Overflow v (held kind model error.Overflow v) refl)
