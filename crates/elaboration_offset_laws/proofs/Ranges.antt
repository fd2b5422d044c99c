-- Converted values lie in the range of their kind.
use Rattle.std.proofs.Common.{◌≡◌, refl, ◌+◌, ◌-◌, ◌^◌, ℕ, ◌<◌, ℤ, pos, negsuc, ◌≤ℤ◌, Bool, true, false, if◌then◌else◌, mod-lt, pow_pos, arith, lit<}
use Rattle.std.specs.Prelude.{nat_lt}
use Rattle.std.proofs.lemmas.Int.{ints}
use Rattle.std.proofs.lemmas.Bool.Decides.{nat_tests}
use Rattle.lv_base.specs.declared.kind.Kind.{Kind}
use Rattle.lv_base.specs.declared.kind.Kind.TheVariants.{Bool as ABool, Char, UChar, Short, UShort, Int, UInt, Long, ULong, LongLong, ULongLong}
use Rattle.lv_base.specs.declared.kind.Model.{Model}
use Rattle.lv_base.specs.declared.kind.Model.TheVariants.{Ilp32, Lp64}
use Rattle.lv_base.specs.Integers.{InRange, wrapped, width_of, residue, is_zero, converted}

low_signed : (b : Bool) (bits low : ℕ) (half : ℕ) → 0 < half → 2 ^ bits ≡ half + half → low < 2 ^ bits → b ≡ nat_lt low half → (negsuc (half - 1) ≤ℤ (if b then pos low else negsuc (2 ^ bits - 1 - low))) × ((if b then pos low else negsuc (2 ^ bits - 1 - low)) ≤ℤ pos (half - 1))
low_signed true bits low half some is small test = (omega (arith, ints), grind (arith, ints, nat_tests))
low_signed false bits low half some is small test = (grind (arith, ints, nat_tests), omega (arith, ints))

wrapped_in_range : (kind : Kind) (model : Model) (low : ℕ) → low < 2 ^ width_of kind model → InRange kind model (wrapped kind model low)
wrapped_in_range ABool model low h = (omega (arith, ints), omega (arith, ints))
wrapped_in_range Char model low h = low_signed _ 8 low (2 ^ 7) (lit< tt) refl h refl
wrapped_in_range UChar model low h = (omega (arith, ints), omega (arith, ints))
wrapped_in_range Short model low h = low_signed _ 16 low (2 ^ 15) (lit< tt) refl h refl
wrapped_in_range UShort model low h = (omega (arith, ints), omega (arith, ints))
wrapped_in_range Int model low h = low_signed _ 32 low (2 ^ 31) (lit< tt) refl h refl
wrapped_in_range UInt model low h = (omega (arith, ints), omega (arith, ints))
wrapped_in_range Long Ilp32 low h = low_signed _ 32 low (2 ^ 31) (lit< tt) refl h refl
wrapped_in_range Long Lp64 low h = low_signed _ 64 low (2 ^ 63) (lit< tt) refl h refl
wrapped_in_range ULong Ilp32 low h = (omega (arith, ints), omega (arith, ints))
wrapped_in_range ULong Lp64 low h = (omega (arith, ints), omega (arith, ints))
wrapped_in_range LongLong model low h = low_signed _ 64 low (2 ^ 63) (lit< tt) refl h refl
wrapped_in_range ULongLong model low h = (omega (arith, ints), omega (arith, ints))

residue_small : (bits : ℕ) (v : ℤ) → residue bits v < 2 ^ bits
residue_small bits (pos a) = mod-lt a (pow_pos bits)
residue_small bits (negsuc a) = let some = pow_pos bits in omega (arith, some)

zero_or_one : (model : Model) (b : Bool) → InRange ABool model (if b then pos 0 else pos 1)
zero_or_one model true = (omega (arith, ints), omega (arith, ints))
zero_or_one model false = (omega (arith, ints), omega (arith, ints))

pub converted_in_range : (kind : Kind) (model : Model) (v : ℤ) → InRange kind model (converted kind model v)
converted_in_range ABool model v = zero_or_one model (is_zero v)
converted_in_range Char model v = wrapped_in_range Char model _ (residue_small (width_of Char model) v)
converted_in_range UChar model v = wrapped_in_range UChar model _ (residue_small (width_of UChar model) v)
converted_in_range Short model v = wrapped_in_range Short model _ (residue_small (width_of Short model) v)
converted_in_range UShort model v = wrapped_in_range UShort model _ (residue_small (width_of UShort model) v)
converted_in_range Int model v = wrapped_in_range Int model _ (residue_small (width_of Int model) v)
converted_in_range UInt model v = wrapped_in_range UInt model _ (residue_small (width_of UInt model) v)
converted_in_range Long model v = wrapped_in_range Long model _ (residue_small (width_of Long model) v)
converted_in_range ULong model v = wrapped_in_range ULong model _ (residue_small (width_of ULong model) v)
converted_in_range LongLong model v = wrapped_in_range LongLong model _ (residue_small (width_of LongLong model) v)
converted_in_range ULongLong model v = wrapped_in_range ULongLong model _ (residue_small (width_of ULongLong model) v)

pub zero_in_range : (kind : Kind) (model : Model) → InRange kind model (pos 0)
zero_in_range ABool model = (omega (arith, ints), omega (arith, ints))
zero_in_range Char model = (omega (arith, ints), omega (arith, ints))
zero_in_range UChar model = (omega (arith, ints), omega (arith, ints))
zero_in_range Short model = (omega (arith, ints), omega (arith, ints))
zero_in_range UShort model = (omega (arith, ints), omega (arith, ints))
zero_in_range Int model = (omega (arith, ints), omega (arith, ints))
zero_in_range UInt model = (omega (arith, ints), omega (arith, ints))
zero_in_range Long Ilp32 = (omega (arith, ints), omega (arith, ints))
zero_in_range Long Lp64 = (omega (arith, ints), omega (arith, ints))
zero_in_range ULong Ilp32 = (omega (arith, ints), omega (arith, ints))
zero_in_range ULong Lp64 = (omega (arith, ints), omega (arith, ints))
zero_in_range LongLong model = (omega (arith, ints), omega (arith, ints))
zero_in_range ULongLong model = (omega (arith, ints), omega (arith, ints))
