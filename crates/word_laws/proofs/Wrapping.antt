-- Values of a kind and their low bits.
use Rattle.std.proofs.Common.{◌≡◌, ℕ, ◌-◌, ◌<◌, ◌≤◌, ◌^◌, ◌%◌, refl, ap, ◌∙◌, arith, Bool, true, false, if◌then◌else◌, ℤ, pos}
use Rattle.std.proofs.Math.Nat.{mod-eq_of_lt}
use Rattle.lv_base.specs.declared.kind.Kind.{Kind}
use Rattle.lv_base.specs.declared.kind.Kind.TheVariants.{Bool as ABool, Char, UChar, Short, UShort, Int, UInt, Long, ULong, LongLong, ULongLong}
use Rattle.lv_base.specs.declared.kind.Model.{Model}
use Rattle.lv_base.specs.declared.kind.Model.TheVariants.{Ilp32, Lp64}
use Rattle.lv_base.specs.Integers.{width_of, is_signed, is_promoted, residue, signed_of, wrapped, converted}
use Rattle.word_laws.proofs.Sums.{Signed, plus, minus, signed}

pub width_some : (kind : Kind) (model : Model) → 1 ≤ width_of kind model
width_some ABool model = omega arith
width_some Char model = omega arith
width_some UChar model = omega arith
width_some Short model = omega arith
width_some UShort model = omega arith
width_some Int model = omega arith
width_some UInt model = omega arith
width_some Long Ilp32 = omega arith
width_some Long Lp64 = omega arith
width_some ULong Ilp32 = omega arith
width_some ULong Lp64 = omega arith
width_some LongLong model = omega arith
width_some ULongLong model = omega arith

pub width_most : (kind : Kind) (model : Model) → width_of kind model ≤ 64
width_most ABool model = omega arith
width_most Char model = omega arith
width_most UChar model = omega arith
width_most Short model = omega arith
width_most UShort model = omega arith
width_most Int model = omega arith
width_most UInt model = omega arith
width_most Long Ilp32 = omega arith
width_most Long Lp64 = omega arith
width_most ULong Ilp32 = omega arith
width_most ULong Lp64 = omega arith
width_most LongLong model = omega arith
width_most ULongLong model = omega arith

-- but for `_Bool` a conversion keeps the low bits
pub converted_promoted : (kind : Kind) (model : Model) (a : ℤ) → is_promoted kind ≡ true → converted kind model a ≡ wrapped kind model (residue (width_of kind model) a)
converted_promoted ABool model a is = cc
converted_promoted Char model a is = cc
converted_promoted UChar model a is = cc
converted_promoted Short model a is = cc
converted_promoted UShort model a is = cc
converted_promoted Int model a is = refl
converted_promoted UInt model a is = refl
converted_promoted Long model a is = refl
converted_promoted ULong model a is = refl
converted_promoted LongLong model a is = refl
converted_promoted ULongLong model a is = refl

pub wrapped_signed : (kind : Kind) (model : Model) (x : ℕ) → is_signed kind ≡ true → wrapped kind model x ≡ signed_of (width_of kind model) x
wrapped_signed kind model x e = ap (λ (b : Bool). if b then signed_of (width_of kind model) x else pos x) e

pub wrapped_unsigned : (kind : Kind) (model : Model) (x : ℕ) → is_signed kind ≡ false → wrapped kind model x ≡ pos x
wrapped_unsigned kind model x e = ap (λ (b : Bool). if b then signed_of (width_of kind model) x else pos x) e

-- the low bits of a number in two's complement are its own
pub signed_back : (w x : ℕ) → 1 ≤ w → x < 2 ^ w → residue w (signed_of w x) ≡ x
signed_back w x some lt = go (signed w x some lt)
  where
    go : Signed w x → residue w (signed_of w x) ≡ x
    go (plus h v b) = ap (residue w) v ∙ mod-eq_of_lt lt
    go (minus h v b) =
        let s : (2 ^ w - 1 - x) % 2 ^ w ≡ 2 ^ w - 1 - x = mod-eq_of_lt (omega (arith, lt)) in
        ap (residue w) v ∙ ap (λ (n : ℕ). 2 ^ w - 1 - n) s ∙ omega (arith, lt)

pub wrapped_back : (kind : Kind) (model : Model) (x : ℕ) → x < 2 ^ width_of kind model → residue (width_of kind model) (wrapped kind model x) ≡ x
wrapped_back kind model x lt = go (is_signed kind) refl
  where
    go : (b : Bool) → is_signed kind ≡ b → residue (width_of kind model) (wrapped kind model x) ≡ x
    go true e = ap (residue (width_of kind model)) (wrapped_signed kind model x e) ∙ signed_back (width_of kind model) x (width_some kind model) lt
    go false e = ap (residue (width_of kind model)) (wrapped_unsigned kind model x e) ∙ mod-eq_of_lt lt
