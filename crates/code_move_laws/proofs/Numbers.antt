-- Integers of a kind and their residues.
use Rattle.std.proofs.Common.{◌≡◌, ℕ, ◌+◌, ◌-◌, ◌*◌, ◌<◌, ◌^◌, ◌%◌, refl, sym, ap, ◌∙◌, subst, arith, Bool, true, false, not, if◌then◌else◌, lt-ltb, ℤ, pos, negsuc, ◌≤ℤ◌}
use Rattle.std.specs.Prelude.{bit_and, bit_xor}
use Rattle.std.proofs.Math.Nat.{mod-eq_of_lt}
use Rattle.std.proofs.lemmas.Int.{ints}
use Rattle.std.proofs.lemmas.Nat.{pow_pos, and_mask}
use Rattle.std.specs.Int.Bits.{xor_add_and}
use Rattle.lv_base.specs.declared.kind.Kind.{Kind}
use Rattle.lv_base.specs.declared.kind.Model.{Model}
use Rattle.lv_base.specs.Integers as int
use Rattle.lv_base.specs.Integers.{width_of, is_signed, residue, signed_of, wrapped, converted, least_of, greatest_of, InRange, InAny, is_zero}
use Rattle.bv_term.specs.Numbers.{truth, complement_in}
use Rattle.c_graph.specs.Steps.{in_range_of, modulo}
use Rattle.c_terms.specs.Numbers.{nonzero}
use Rattle.word_laws.proofs.Residues.{signed_low, signed_high, halves}
use Rattle.word_laws.proofs.Wrapping.{width_some, wrapped_signed, wrapped_unsigned}
use Rattle.word_laws.proofs.Answering.{turned_truth}
use Rattle.word_laws.proofs.Whole.{zeros}

-- ---- Ranges

least_is : (kind : Kind) (model : Model) (b : Bool) → is_signed kind ≡ b → least_of kind model ≡ (if b then negsuc (2 ^ (width_of kind model - 1) - 1) else pos 0)
least_is kind model b e = ap (λ (c : Bool). if c then negsuc (2 ^ (width_of kind model - 1) - 1) else pos 0) e

greatest_is : (kind : Kind) (model : Model) (b : Bool) → is_signed kind ≡ b → greatest_of kind model ≡ (if b then pos (2 ^ (width_of kind model - 1) - 1) else pos (2 ^ width_of kind model - 1))
greatest_is kind model b e = ap (λ (c : Bool). if c then pos (2 ^ (width_of kind model - 1) - 1) else pos (2 ^ width_of kind model - 1)) e

-- the range by whether the kind is signed
pub data Ranged (kind : Kind) (model : Model) (v : ℤ) : Type 0 where
  plus : (n : ℕ) → is_signed kind ≡ true → v ≡ pos n → n < 2 ^ (width_of kind model - 1) → Ranged kind model v
  minus : (n : ℕ) → is_signed kind ≡ true → v ≡ negsuc n → n < 2 ^ (width_of kind model - 1) → Ranged kind model v
  unsigned : (n : ℕ) → is_signed kind ≡ false → v ≡ pos n → n < 2 ^ width_of kind model → Ranged kind model v

pub ranged : (kind : Kind) (model : Model) (v : ℤ) → InRange kind model v → Ranged kind model v
ranged kind model v h = go (is_signed kind) refl v h
  where
    go : (b : Bool) → is_signed kind ≡ b → (v : ℤ) → InRange kind model v → Ranged kind model v
    go true e (pos n) h =
        let high : pos n ≤ℤ pos (2 ^ (width_of kind model - 1) - 1) = subst (λ (z : ℤ). pos n ≤ℤ z) (greatest_is kind model true e) h.1 in
        plus n e refl (omega (arith, ints, high, pow_pos (width_of kind model - 1)))
    go true e (negsuc n) h =
        let low : negsuc (2 ^ (width_of kind model - 1) - 1) ≤ℤ negsuc n = subst (λ (z : ℤ). z ≤ℤ negsuc n) (least_is kind model true e) h.0 in
        minus n e refl (omega (arith, ints, low, pow_pos (width_of kind model - 1)))
    go false e (pos n) h =
        let high : pos n ≤ℤ pos (2 ^ width_of kind model - 1) = subst (λ (z : ℤ). pos n ≤ℤ z) (greatest_is kind model false e) h.1 in
        unsigned n e refl (omega (arith, ints, high, pow_pos (width_of kind model)))
    go false e (negsuc n) h =
        let low : pos 0 ≤ℤ negsuc n = subst (λ (z : ℤ). z ≤ℤ negsuc n) (least_is kind model false e) h.0 in
        absurd (omega (arith, ints, low))

-- a value of a kind is that of its low bits
pub wrapped_same : (kind : Kind) (model : Model) (v : ℤ) → InRange kind model v → wrapped kind model (residue (width_of kind model) v) ≡ v
wrapped_same kind model v h = go (ranged kind model v h)
  where
    w : ℕ
    w = width_of kind model

    half : 2 ^ width_of kind model ≡ 2 ^ (width_of kind model - 1) + 2 ^ (width_of kind model - 1)
    half = halves (width_of kind model) (width_some kind model)

    go : Ranged kind model v → wrapped kind model (residue (width_of kind model) v) ≡ v
    go (plus n e is lt) =
        let low : n % 2 ^ width_of kind model ≡ n = mod-eq_of_lt (omega (arith, lt, half)) in
        ap (λ (z : ℤ). wrapped kind model (residue (width_of kind model) z)) is ∙ wrapped_signed kind model (n % 2 ^ width_of kind model) e ∙ ap (signed_of (width_of kind model)) low ∙ signed_low (width_of kind model) n lt ∙ sym is
    go (minus n e is lt) =
        let low : n % 2 ^ width_of kind model ≡ n = mod-eq_of_lt (omega (arith, lt, half)) in
        let x : ℕ = 2 ^ width_of kind model - 1 - n in
        let back : 2 ^ width_of kind model - 1 - x ≡ n = omega (arith, lt, half) in
        ap (λ (z : ℤ). wrapped kind model (residue (width_of kind model) z)) is
        ∙ ap (λ (m : ℕ). wrapped kind model (2 ^ width_of kind model - 1 - m)) low
        ∙ wrapped_signed kind model x e ∙ signed_high (width_of kind model) x (omega (arith, lt, half)) ∙ ap negsuc back ∙ sym is
    go (unsigned n e is lt) =
        let low : n % 2 ^ width_of kind model ≡ n = mod-eq_of_lt lt in
        ap (λ (z : ℤ). wrapped kind model (residue (width_of kind model) z)) is ∙ wrapped_unsigned kind model (n % 2 ^ width_of kind model) e ∙ ap pos low ∙ sym is

-- values of a kind that agree modulo two to the power of 64 are equal
pub residues_differ : (kind : Kind) (model : Model) (a b : ℤ) → InRange kind model a → InRange kind model b → residue (width_of kind model) a ≡ residue (width_of kind model) b → a ≡ b
residues_differ kind model a b h k e = sym (wrapped_same kind model a h) ∙ ap (wrapped kind model) e ∙ wrapped_same kind model b k

-- ---- Draws

pub modulo_is : (w : ℕ) (v : ℤ) → modulo w v ≡ residue w v
modulo_is w (pos n) = refl
modulo_is w (negsuc n) = refl

-- a value of a kind is one that a draw of its width takes
pub in_draw : (kind : Kind) (model : Model) (v : ℤ) → InRange kind model v → in_range_of (width_of kind model) (is_signed kind) v ≡ true
in_draw kind model v h = go (ranged kind model v h)
  where
    go : Ranged kind model v → in_range_of (width_of kind model) (is_signed kind) v ≡ true
    go (plus n e is lt) = ap (λ (b : Bool). in_range_of (width_of kind model) b v) e ∙ ap (in_range_of (width_of kind model) true) is ∙ lt-ltb n (2 ^ (width_of kind model - 1)) lt
    go (minus n e is lt) = ap (λ (b : Bool). in_range_of (width_of kind model) b v) e ∙ ap (in_range_of (width_of kind model) true) is ∙ lt-ltb n (2 ^ (width_of kind model - 1)) lt
    go (unsigned n e is lt) = ap (λ (b : Bool). in_range_of (width_of kind model) b v) e ∙ ap (in_range_of (width_of kind model) false) is ∙ lt-ltb n (2 ^ width_of kind model) lt

-- ---- Slots

pub number_slot : (n : ℕ) → n < 2 ^ 64 → residue 64 (pos n) ≡ n
number_slot n lt = mod-eq_of_lt lt

pub truth_slot : (b : Bool) → truth b ≡ residue 64 (int.truth b)
truth_slot true = refl
truth_slot false = refl

pub nonzero_slot : (v : ℤ) → InAny v → nonzero (residue 64 v) ≡ truth (not (is_zero v))
nonzero_slot v h = ap (complement_in 1) (zeros v h) ∙ turned_truth (is_zero v)

-- ---- Complements

pub complement_is : (w x : ℕ) → x < 2 ^ w → bit_xor x (2 ^ w - 1) ≡ complement_in w x
complement_is w x lt =
    let all : bit_and x (2 ^ w - 1) ≡ x = and_mask x w ∙ mod-eq_of_lt lt in
    let sum : bit_xor x (2 ^ w - 1) + bit_and x (2 ^ w - 1) * 2 ≡ x + (2 ^ w - 1) = xor_add_and x (2 ^ w - 1) in
    let flat : bit_xor x (2 ^ w - 1) + x * 2 ≡ x + (2 ^ w - 1) = ap (λ (m : ℕ). bit_xor x (2 ^ w - 1) + m * 2) (sym all) ∙ sum in
    omega (arith, flat, lt)
