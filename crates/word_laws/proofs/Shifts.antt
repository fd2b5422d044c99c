-- Shifts of numbers in two's complement.
use Rattle.std.proofs.Common.{◌≡◌, ℕ, ◌-◌, ◌*◌, ◌/◌, ◌<◌, ◌≤◌, ◌^◌, ◌%◌, ◌==◌, ◌⊎◌, inl, inr, sym, ap, ◌∙◌, subst, arith, Bool, true, false, if◌then◌else◌, lt-ltb, le-leb, pos, negsuc, eq-eqb}
use Rattle.std.specs.Int.{int_div_euclid}
use Rattle.std.proofs.Math.Nat.{mod-lt, div-le_self, div-mul-le_self}
use Rattle.std.proofs.lemmas.Bool.{cases_lt, lt-leb, ne_eqb}
use Rattle.std.proofs.lemmas.Nat.{pow_pos, shl-shr}
use Rattle.lv_base.specs.Integers.{signed_of}
use Rattle.bv_term.specs.Numbers.{left_in, right_in, signed_right_in, complement_in}
use Rattle.word_laws.proofs.Residues.{halves, signed_low, signed_high, wrap_low}
use Rattle.word_laws.proofs.Sums.{Signed, plus, minus, signed}

pub right_is : (w a k : ℕ) → k < w → right_in w a k ≡ a / 2 ^ k
right_is w a k lt = ap (λ (b : Bool). if b then a / 2 ^ k else 0) (lt-ltb k w lt)

pub left_is : (w a k : ℕ) → k < w → left_in w a k ≡ (a * 2 ^ k) % 2 ^ w
left_is w a k lt = ap (λ (b : Bool). if b then (a * 2 ^ k) % 2 ^ w else 0) (lt-ltb k w lt)

signed_right_low : (w a k : ℕ) → k < w → a < 2 ^ (w - 1) → signed_right_in w a k ≡ a / 2 ^ k
signed_right_low w a k lt h =
    ap (λ (b : Bool). if b then complement_in w (right_in w (complement_in w a) k) else right_in w a k) (lt-leb (2 ^ (w - 1)) a h) ∙ right_is w a k lt

signed_right_high : (w a k : ℕ) → k < w → 2 ^ (w - 1) ≤ a → signed_right_in w a k ≡ 2 ^ w - 1 - (2 ^ w - 1 - a) / 2 ^ k
signed_right_high w a k lt h =
    ap (λ (b : Bool). if b then complement_in w (right_in w (complement_in w a) k) else right_in w a k) (le-leb (2 ^ (w - 1)) a h) ∙ ap (complement_in w) (right_is w (complement_in w a) k lt)

-- a signed number shifted right, rounded down
pub right_shifted : (w x k : ℕ) → 1 ≤ w → k < w → x < 2 ^ w → int_div_euclid (signed_of w x) (pos (2 ^ k)) ≡ signed_of w (signed_right_in w x k)
right_shifted w x k some lt tx = go (signed w x some tx)
  where
    go : Signed w x → int_div_euclid (signed_of w x) (pos (2 ^ k)) ≡ signed_of w (signed_right_in w x k)
    go (plus h v b) =
        let small : x / 2 ^ k < 2 ^ (w - 1) = omega (arith, div-le_self x (2 ^ k), h) in
        ap (λ z. int_div_euclid z (pos (2 ^ k))) v ∙ sym (ap (signed_of w) (signed_right_low w x k lt h) ∙ signed_low w (x / 2 ^ k) small)
    go (minus h v b) =
        let a : ℕ = 2 ^ w - 1 - x in
        let q : ℕ = a / 2 ^ k in
        let le : q ≤ a = div-le_self a (2 ^ k) in
        let r : ℕ = 2 ^ w - 1 - q in
        let back : 2 ^ w - 1 - r ≡ q = omega (arith, le, tx) in
        ap (λ z. int_div_euclid z (pos (2 ^ k))) v
        ∙ sym (ap (signed_of w) (signed_right_high w x k lt h) ∙ signed_high w r (omega (arith, le, h, tx, halves w some)) ∙ ap negsuc back)

-- the result has its own low bits, and shifts back, where the kind holds it
pub data Kept (w x k : ℕ) : Type 0 where
  kept : x * 2 ^ k < 2 ^ (w - 1) → left_in w x k ≡ x * 2 ^ k → (signed_right_in w (left_in w x k) k == x) ≡ true → Kept w x k
  lost : 2 ^ (w - 1) ≤ x * 2 ^ k → (signed_right_in w (left_in w x k) k == x) ≡ false → Kept w x k

pub left_shifted : (w x k : ℕ) → 1 ≤ w → k < w → x < 2 ^ (w - 1) → Kept w x k
left_shifted w x k some lt h = go (cases_lt (x * 2 ^ k) (2 ^ (w - 1))) (signed w (left_in w x k) some low)
  where
    low : left_in w x k < 2 ^ w
    low = subst (λ (n : ℕ). n < 2 ^ w) (sym (left_is w x k lt)) (mod-lt (x * 2 ^ k) (pow_pos w))

    go : (x * 2 ^ k < 2 ^ (w - 1)) ⊎ (2 ^ (w - 1) ≤ x * 2 ^ k) → Signed w (left_in w x k) → Kept w x k
    go (inl m) s =
        let e : left_in w x k ≡ x * 2 ^ k = left_is w x k lt ∙ wrap_low (x * 2 ^ k) (2 ^ w) (omega (arith, m, halves w some)) in
        let back : signed_right_in w (left_in w x k) k ≡ x = ap (λ n. signed_right_in w n k) e ∙ signed_right_low w (x * 2 ^ k) k lt m ∙ shl-shr x k in
        kept m e (eq-eqb (signed_right_in w (left_in w x k) k) x back)
    go (inr m) (plus g v b) = lost m (ne_eqb (signed_right_in w (left_in w x k) k) x (λ e.
        let q : left_in w x k / 2 ^ k ≡ x = sym (signed_right_low w (left_in w x k) k lt g) ∙ e in
        let le : left_in w x k / 2 ^ k * 2 ^ k ≤ left_in w x k = div-mul-le_self (left_in w x k) (2 ^ k) in
        let le2 : x * 2 ^ k ≤ left_in w x k = subst (λ (n : ℕ). n * 2 ^ k ≤ left_in w x k) q le in
        omega (arith, le2, m, g)))
    go (inr m) (minus g v b) = lost m (ne_eqb (signed_right_in w (left_in w x k) k) x (λ e.
        let a : ℕ = 2 ^ w - 1 - left_in w x k in
        let le : a / 2 ^ k ≤ a = div-le_self a (2 ^ k) in
        let q : 2 ^ w - 1 - a / 2 ^ k ≡ x = sym (signed_right_high w (left_in w x k) k lt g) ∙ e in
        omega (arith, q, le, h, g, low, halves w some)))
