-- Values of a kind are values of the promoted kind, and stay as they are in a conversion to their own kind.
use Rattle.std.proofs.Common.{◌≡◌, ◌∙◌, ap, refl, ℕ, ◌<◌, ◌≤◌, ◌^◌, ◌-◌, ◌+◌, if◌then◌else◌, ℤ, pos, negsuc, ◌≤ℤ◌, true, arith, lit<}
use Rattle.std.proofs.lemmas.Int.{ints}
use Rattle.std.proofs.lemmas.Bool.{lt-ltb, le-ltb}
use Rattle.std.proofs.Math.Nat.{mod-eq_of_lt}
use Rattle.lv_base.specs.declared.kind.Kind.{Kind}
use Rattle.lv_base.specs.declared.kind.Kind.TheVariants.{Bool as ABool, Char, UChar, Short, UShort, Int, UInt, Long, ULong, LongLong, ULongLong}
use Rattle.lv_base.specs.declared.kind.Model.{Model}
use Rattle.lv_base.specs.declared.kind.Model.TheVariants.{Ilp32, Lp64}
use Rattle.lv_base.specs.Integers.{InRange, is_promoted, width_of, residue, signed_of, converted}
use Rattle.c_meaning.specs.Kinds.{promoted, common}

-- ---- Conversions to the same kind

above_same : (bits a : ℕ) → a < 2 ^ (bits - 1) → a < 2 ^ bits → signed_of bits (residue bits (pos a)) ≡ pos a
above_same bits a h k =
    ap (signed_of bits) (mod-eq_of_lt k) ∙ ap (λ b. if b then pos a else negsuc (2 ^ bits - 1 - a)) (lt-ltb a (2 ^ (bits - 1)) h)

below_same : (bits a : ℕ) → a < 2 ^ (bits - 1) → 2 ^ bits ≡ 2 ^ (bits - 1) + 2 ^ (bits - 1) → signed_of bits (residue bits (negsuc a)) ≡ negsuc a
below_same bits a h k =
    let low : ℕ = 2 ^ bits - 1 - a in
    ap (λ r. signed_of bits (2 ^ bits - 1 - r)) (mod-eq_of_lt (omega (arith, h, k)))
    ∙ ap (λ b. if b then pos low else negsuc (2 ^ bits - 1 - low)) (le-ltb low (2 ^ (bits - 1)) (omega (arith, h, k)))
    ∙ ap negsuc (omega (arith, h, k))

signed_same : (bits : ℕ) (v : ℤ) → negsuc (2 ^ (bits - 1) - 1) ≤ℤ v → v ≤ℤ pos (2 ^ (bits - 1) - 1) → 0 < 2 ^ (bits - 1) → 2 ^ bits ≡ 2 ^ (bits - 1) + 2 ^ (bits - 1) → signed_of bits (residue bits v) ≡ v
signed_same bits (pos a) low high some k = above_same bits a (omega (arith, ints)) (omega (arith, ints))
signed_same bits (negsuc a) low high some k = below_same bits a (omega (arith, ints)) k

plain_same : (bits : ℕ) (v : ℤ) → pos 0 ≤ℤ v → v ≤ℤ pos (2 ^ bits - 1) → 0 < 2 ^ bits → pos (residue bits v) ≡ v
plain_same bits (pos a) low high some = ap pos (mod-eq_of_lt (omega (arith, ints)))
plain_same bits (negsuc a) low high some = absurd (omega (arith, ints))

-- a value of a promoted kind is converted to itself
pub same : (kind : Kind) (model : Model) (v : ℤ) → is_promoted kind ≡ true → InRange kind model v → converted kind model v ≡ v
same ABool model v p h = absurd cc
same Char model v p h = absurd cc
same UChar model v p h = absurd cc
same Short model v p h = absurd cc
same UShort model v p h = absurd cc
same Int model v p h = signed_same 32 v h.0 h.1 (lit< tt) refl
same UInt model v p h = plain_same 32 v h.0 h.1 (lit< tt)
same Long Ilp32 v p h = signed_same 32 v h.0 h.1 (lit< tt) refl
same Long Lp64 v p h = signed_same 64 v h.0 h.1 (lit< tt) refl
same ULong Ilp32 v p h = plain_same 32 v h.0 h.1 (lit< tt)
same ULong Lp64 v p h = plain_same 64 v h.0 h.1 (lit< tt)
same LongLong model v p h = signed_same 64 v h.0 h.1 (lit< tt) refl
same ULongLong model v p h = plain_same 64 v h.0 h.1 (lit< tt)

-- ---- Promotion

pub promoted-is : (kind : Kind) → is_promoted (promoted kind) ≡ true
promoted-is ABool = refl
promoted-is Char = refl
promoted-is UChar = refl
promoted-is Short = refl
promoted-is UShort = refl
promoted-is Int = refl
promoted-is UInt = refl
promoted-is Long = refl
promoted-is ULong = refl
promoted-is LongLong = refl
promoted-is ULongLong = refl

pub promoted-wide : (kind : Kind) (model : Model) → width_of kind model ≤ width_of (promoted kind) model
promoted-wide ABool model = omega arith
promoted-wide Char model = omega arith
promoted-wide UChar model = omega arith
promoted-wide Short model = omega arith
promoted-wide UShort model = omega arith
promoted-wide Int model = omega arith
promoted-wide UInt model = omega arith
promoted-wide Long model = omega arith
promoted-wide ULong model = omega arith
promoted-wide LongLong model = omega arith
promoted-wide ULongLong model = omega arith

-- with `int` a promoted kind stays
pub common-int : (kind : Kind) (model : Model) → common model (promoted kind) Int ≡ promoted kind
common-int ABool model = refl
common-int Char model = refl
common-int UChar model = refl
common-int Short model = refl
common-int UShort model = refl
common-int Int model = refl
common-int UInt model = refl
common-int Long model = refl
common-int ULong model = refl
common-int LongLong model = refl
common-int ULongLong model = refl

within : (v low high low' high' : ℤ) → low' ≤ℤ low → high ≤ℤ high' → low ≤ℤ v → v ≤ℤ high → (low' ≤ℤ v) × (v ≤ℤ high')
within v low high low' high' a b c d = (omega (arith, ints, a, c), omega (arith, ints, b, d))

-- `int` has the values of the smaller kinds
pub promoted-range : (kind : Kind) (model : Model) (v : ℤ) → InRange kind model v → InRange (promoted kind) model v
promoted-range ABool model v h = within v _ _ _ _ (omega (arith, ints)) (omega (arith, ints)) h.0 h.1
promoted-range Char model v h = within v _ _ _ _ (omega (arith, ints)) (omega (arith, ints)) h.0 h.1
promoted-range UChar model v h = within v _ _ _ _ (omega (arith, ints)) (omega (arith, ints)) h.0 h.1
promoted-range Short model v h = within v _ _ _ _ (omega (arith, ints)) (omega (arith, ints)) h.0 h.1
promoted-range UShort model v h = within v _ _ _ _ (omega (arith, ints)) (omega (arith, ints)) h.0 h.1
promoted-range Int model v h = h
promoted-range UInt model v h = h
promoted-range Long model v h = h
promoted-range ULong model v h = h
promoted-range LongLong model v h = h
promoted-range ULongLong model v h = h
