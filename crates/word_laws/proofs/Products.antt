-- Products of numbers in two's complement, made exactly in twice the width.
use Rattle.std.proofs.Common.{◌≡◌, ℕ, zero, suc, ◌+◌, ◌-◌, ◌*◌, ◌<◌, ◌≤◌, ◌^◌, ◌%◌, ◌==◌, ◌⊎◌, inl, inr, refl, sym, ap, ◌∙◌, subst, arith, eq-eqb, ℤ, pos, negsuc, neg_ℤ, ◌*ℤ◌}
use Rattle.std.proofs.Math.Nat.{mod-eq_of_lt, mul-le-mul_left, mul_comm}
use Rattle.std.proofs.Math.IntN.{pos-*ℤ-pos, pos-*ℤ-negsuc, negsuc-*ℤ-pos, negsuc-*ℤ-negsuc}
use Rattle.std.proofs.lemmas.Int.{ints}
use Rattle.std.proofs.lemmas.Bool.{cases_lt, ne_eqb}
use Rattle.std.proofs.lemmas.Nat.{pow_pos, pow-add, mod-mul-add}
use Rattle.lv_base.specs.Integers.{signed_of}
use Rattle.bv_term.specs.Numbers.{product_in, sign_extended, complement_in, truth}
use Rattle.word_laws.proofs.Residues.{halves, signed_low, signed_high, sign_low, sign_high, wrap_low}
use Rattle.word_laws.proofs.Sums.{Fits, within, below, above, Signed, plus, minus, signed}

square : (w : ℕ) → 2 ^ (w * 2) ≡ 2 ^ w * 2 ^ w
square w =
    let e : w * 2 ≡ w + w = omega arith in
    ap (λ (n : ℕ). 2 ^ n) e ∙ pow-add 2 w w

-- four times the square of the half
quarters : (w : ℕ) → 1 ≤ w → 2 ^ (w * 2) ≡ 4 * (2 ^ (w - 1) * 2 ^ (w - 1))
quarters w some =
    let h : ℕ = 2 ^ (w - 1) in
    let e : (h + h) * (h + h) ≡ 4 * (h * h) = omega arith in
    square w ∙ ap (λ (n : ℕ). n * n) (halves w some) ∙ e

-- the square of the half is no less than the half
half_square : (w : ℕ) → 2 ^ (w - 1) ≤ 2 ^ (w - 1) * 2 ^ (w - 1)
half_square w = let e : 2 ^ (w - 1) * 1 ≤ 2 ^ (w - 1) * 2 ^ (w - 1) = mul-le-mul_left (2 ^ (w - 1)) (pow_pos (w - 1)) in omega (arith, e)

-- where the exact product is not the extension of its low half
abbrev pub test : ℕ → ℕ → ℕ
test w e = complement_in 1 (truth (sign_extended w (w * 2) (e % 2 ^ w) == e))

test_true : (w e : ℕ) → sign_extended w (w * 2) (e % 2 ^ w) ≡ e → test w e ≡ 0
test_true w e same = ap (λ b. complement_in 1 (truth b)) (eq-eqb (sign_extended w (w * 2) (e % 2 ^ w)) e same)

test_false : (w e : ℕ) → (sign_extended w (w * 2) (e % 2 ^ w) ≡ e → ⊥) → test w e ≡ 1
test_false w e differ = ap (λ b. complement_in 1 (truth b)) (ne_eqb (sign_extended w (w * 2) (e % 2 ^ w)) e differ)

-- a product that is not negative
plus_product : (w p : ℕ) → 1 ≤ w → p ≤ 2 ^ (w - 1) * 2 ^ (w - 1) → Fits w (pos p) (p % 2 ^ w) (test w p)
plus_product w p some le = go (cases_lt p (2 ^ (w - 1)))
  where
    go : (p < 2 ^ (w - 1)) ⊎ (2 ^ (w - 1) ≤ p) → Fits w (pos p) (p % 2 ^ w) (test w p)
    go (inl h) =
        let e : p % 2 ^ w ≡ p = wrap_low p (2 ^ w) (omega (arith, h, halves w some)) in
        within (omega (arith, ints)) (omega (arith, ints, h)) (sym (ap (signed_of w) e ∙ signed_low w p h))
        (test_true w p (ap (sign_extended w (w * 2)) e ∙ sign_low w (w * 2) p h))
    go (inr h) = above (omega (arith, ints, h, pow_pos (w - 1))) (test_false w p (λ same. other (cases_lt (p % 2 ^ w) (2 ^ (w - 1))) same))
      where
        other : (p % 2 ^ w < 2 ^ (w - 1)) ⊎ (2 ^ (w - 1) ≤ p % 2 ^ w) → sign_extended w (w * 2) (p % 2 ^ w) ≡ p → ⊥
        other (inl l) same = omega (arith, l, h, same, sign_low w (w * 2) (p % 2 ^ w) l)
        other (inr l) same = omega (arith, l, le, same, sign_high w (w * 2) (p % 2 ^ w) l, quarters w some, half_square w, halves w some, pow_pos (w - 1))

low_of : (w p : ℕ) → 1 ≤ w → 0 < p → p ≤ 2 ^ (w - 1) → (2 ^ (w * 2) - p) % 2 ^ w ≡ 2 ^ w - p
low_of w p some pos_p le =
    let k : ℕ = 2 ^ w - 1 in
    let e : 2 ^ w ≡ k + 1 = omega (arith, pow_pos w) in
    let d : 2 ^ (w * 2) ≡ (k + 1) * 2 ^ w = square w ∙ ap (λ (n : ℕ). n * 2 ^ w) e in
    let f : 2 ^ (w * 2) - p ≡ k * 2 ^ w + (2 ^ w - p) = omega (arith, d, le, halves w some) in
    ap (λ (n : ℕ). n % 2 ^ w) f ∙ mod-mul-add k (2 ^ w) (2 ^ w - p) (omega (arith, pos_p, pow_pos w))

-- a product that is negative
minus_product : (w p : ℕ) → 1 ≤ w → suc p ≤ 2 ^ (w - 1) * 2 ^ (w - 1) → Fits w (negsuc p) ((2 ^ (w * 2) - suc p) % 2 ^ w) (test w (2 ^ (w * 2) - suc p))
minus_product w p some le = go (cases_lt (2 ^ (w - 1)) (suc p))
  where
    go : (2 ^ (w - 1) < suc p) ⊎ (suc p ≤ 2 ^ (w - 1)) → Fits w (negsuc p) ((2 ^ (w * 2) - suc p) % 2 ^ w) (test w (2 ^ (w * 2) - suc p))
    go (inr h) =
        let e : (2 ^ (w * 2) - suc p) % 2 ^ w ≡ 2 ^ w - suc p = low_of w (suc p) some (omega arith) h in
        let high : 2 ^ (w - 1) ≤ 2 ^ w - suc p = omega (arith, h, halves w some) in
        let back : 2 ^ w - 1 - (2 ^ w - suc p) ≡ p = omega (arith, h, halves w some) in
        let wide : 2 ^ w - suc p + (2 ^ (w * 2) - 2 ^ w) ≡ 2 ^ (w * 2) - suc p = omega (arith, h, halves w some, quarters w some, half_square w) in
        within (omega (arith, ints, h)) (omega (arith, ints)) (sym (ap (signed_of w) e ∙ signed_high w (2 ^ w - suc p) high ∙ ap negsuc back))
        (test_true w (2 ^ (w * 2) - suc p) (ap (sign_extended w (w * 2)) e ∙ sign_high w (w * 2) (2 ^ w - suc p) high ∙ wide))
    go (inl h) = below (omega (arith, ints, h, pow_pos (w - 1))) (test_false w (2 ^ (w * 2) - suc p) (λ same. other (cases_lt ((2 ^ (w * 2) - suc p) % 2 ^ w) (2 ^ (w - 1))) same))
      where
        other : ((2 ^ (w * 2) - suc p) % 2 ^ w < 2 ^ (w - 1)) ⊎ (2 ^ (w - 1) ≤ (2 ^ (w * 2) - suc p) % 2 ^ w) → sign_extended w (w * 2) ((2 ^ (w * 2) - suc p) % 2 ^ w) ≡ 2 ^ (w * 2) - suc p → ⊥
        other (inl l) same = omega (arith, l, le, same, sign_low w (w * 2) ((2 ^ (w * 2) - suc p) % 2 ^ w) l, quarters w some, half_square w, pow_pos (w - 1))
        other (inr l) same = omega (arith, l, h, le, same, sign_high w (w * 2) ((2 ^ (w * 2) - suc p) % 2 ^ w) l, quarters w some, half_square w, halves w some)

-- ---- The exact product by the signs

sizes : (h m n : ℕ) → m ≤ h → n ≤ h → m * n ≤ h * h
sizes h m n lm ln =
    let a : m * n ≤ m * h = mul-le-mul_left m ln in
    let b : h * m ≤ h * h = mul-le-mul_left h lm in
    let c : m * h ≡ h * m = mul_comm m h in
    omega (arith, a, b, c)

mixed : (D Y n x : ℕ) → D ≡ Y + n → x * n ≤ Y → suc x * Y ≡ x * D + (D - suc x * n)
mixed D Y n x e le = subst (λ (d : ℕ). suc x * Y ≡ x * d + (d - suc x * n)) (sym e) (omega (arith, le))

twice : (Z m n : ℕ) → (Z + n) * (Z + m) ≡ Z * (Z + m + n) + m * n
twice Z m n = omega arith

pub product_pp : (w x y : ℕ) → 1 ≤ w → x < 2 ^ (w - 1) → y < 2 ^ (w - 1) → product_in (w * 2) (sign_extended w (w * 2) x) (sign_extended w (w * 2) y) ≡ x * y
product_pp w x y some lx ly =
    let le : x * y ≤ 2 ^ (w - 1) * 2 ^ (w - 1) = sizes (2 ^ (w - 1)) x y (omega (arith, lx)) (omega (arith, ly)) in
    ap (λ (n : ℕ). (n * sign_extended w (w * 2) y) % 2 ^ (w * 2)) (sign_low w (w * 2) x lx) ∙ ap (λ (n : ℕ). (x * n) % 2 ^ (w * 2)) (sign_low w (w * 2) y ly)
    ∙ mod-eq_of_lt (omega (arith, le, quarters w some, half_square w, pow_pos (w - 1)))

-- the extension of a negative number is its size below the power
wide_minus : (w y : ℕ) → 1 ≤ w → 2 ^ (w - 1) ≤ y → y < 2 ^ w → sign_extended w (w * 2) y ≡ 2 ^ (w * 2) - (2 ^ w - y)
wide_minus w y some ly ty = sign_high w (w * 2) y ly ∙ omega (arith, ty, quarters w some, half_square w, halves w some)

mixed_bits : (w x y : ℕ) → 1 ≤ w → suc x < 2 ^ (w - 1) → 2 ^ (w - 1) ≤ y → y < 2 ^ w
    → (suc x * sign_extended w (w * 2) y) % 2 ^ (w * 2) ≡ 2 ^ (w * 2) - suc x * (2 ^ w - y)
mixed_bits w x y some lx ly ty =
    let n : ℕ = 2 ^ w - y in
    let Y : ℕ = 2 ^ (w * 2) - n in
    let ln : n ≤ 2 ^ (w - 1) = omega (arith, ly, halves w some) in
    let pn : 1 ≤ n = omega (arith, ty) in
    let le : suc x * n ≤ 2 ^ (w - 1) * 2 ^ (w - 1) = sizes (2 ^ (w - 1)) (suc x) n (omega (arith, lx)) ln in
    let D : 2 ^ (w * 2) ≡ Y + n = omega (arith, ln, quarters w some, half_square w) in
    let some_product : suc x * 1 ≤ suc x * n = mul-le-mul_left (suc x) pn in
    let less : x * n ≤ Y = omega (arith, le, ln, quarters w some, half_square w) in
    ap (λ (k : ℕ). (suc x * k) % 2 ^ (w * 2)) (wide_minus w y some ly ty) ∙ ap (λ (k : ℕ). k % 2 ^ (w * 2)) (mixed (2 ^ (w * 2)) Y n x D less)
    ∙ mod-mul-add x (2 ^ (w * 2)) (2 ^ (w * 2) - suc x * n) (omega (arith, some_product, le, quarters w some, half_square w, pow_pos (w - 1)))

product_mm : (w x y : ℕ) → 1 ≤ w → 2 ^ (w - 1) ≤ x → x < 2 ^ w → 2 ^ (w - 1) ≤ y → y < 2 ^ w
    → product_in (w * 2) (sign_extended w (w * 2) x) (sign_extended w (w * 2) y) ≡ (2 ^ w - x) * (2 ^ w - y)
product_mm w x y some lx tx ly ty =
    let m : ℕ = 2 ^ w - x in
    let n : ℕ = 2 ^ w - y in
    let Z : ℕ = 2 ^ (w * 2) - m - n in
    let lm : m ≤ 2 ^ (w - 1) = omega (arith, lx, halves w some) in
    let ln : n ≤ 2 ^ (w - 1) = omega (arith, ly, halves w some) in
    let X : sign_extended w (w * 2) x ≡ Z + n = wide_minus w x some lx tx ∙ omega (arith, lm, ln, quarters w some, half_square w) in
    let Y : sign_extended w (w * 2) y ≡ Z + m = wide_minus w y some ly ty ∙ omega (arith, lm, ln, quarters w some, half_square w) in
    let D : Z + m + n ≡ 2 ^ (w * 2) = omega (arith, lm, ln, quarters w some, half_square w) in
    let le : m * n ≤ 2 ^ (w - 1) * 2 ^ (w - 1) = sizes (2 ^ (w - 1)) m n lm ln in
    ap (λ (k : ℕ). (k * sign_extended w (w * 2) y) % 2 ^ (w * 2)) X ∙ ap (λ (k : ℕ). ((Z + n) * k) % 2 ^ (w * 2)) Y
    ∙ ap (λ (k : ℕ). k % 2 ^ (w * 2)) (twice Z m n ∙ ap (λ (k : ℕ). Z * k + m * n) D)
    ∙ mod-mul-add Z (2 ^ (w * 2)) (m * n) (omega (arith, le, quarters w some, half_square w, pow_pos (w - 1)))

turned : (d a b : ℕ) → product_in d a b ≡ product_in d b a
turned d a b = ap (λ (n : ℕ). n % 2 ^ d) (mul_comm a b)

-- what is said of a product's bits, which are these
by_bits : (w : ℕ) (z y : ℤ) (e f : ℕ) → z ≡ y → e ≡ f → Fits w y (f % 2 ^ w) (test w f) → Fits w z (e % 2 ^ w) (test w e)
by_bits w z y e f p q h = subst (λ (x : ℤ). Fits w x (e % 2 ^ w) (test w e)) (sym p) (subst (λ (n : ℕ). Fits w y (n % 2 ^ w) (test w n)) (sym q) h)

zero_times : (w y : ℕ) → (0 * y) % 2 ^ w ≡ 0
zero_times w y = let e : 0 * y ≡ 0 = omega arith in ap (λ (n : ℕ). n % 2 ^ w) e ∙ mod-eq_of_lt (pow_pos w)

-- one operand is negative
one_minus : (w x y : ℕ) → 1 ≤ w → x < 2 ^ (w - 1) → 2 ^ (w - 1) ≤ y → y < 2 ^ w → (e : ℕ) → e ≡ product_in (w * 2) (sign_extended w (w * 2) x) (sign_extended w (w * 2) y)
    → Fits w (neg_ℤ (pos (x * (2 ^ w - y)))) (e % 2 ^ w) (test w e)
one_minus w zero y some lx ly ty e is =
    let z : zero * (2 ^ w - y) ≡ 0 = omega arith in
    let bits : e ≡ 0 = is ∙ ap (λ (n : ℕ). (n * sign_extended w (w * 2) y) % 2 ^ (w * 2)) (sign_low w (w * 2) 0 lx) ∙ zero_times (w * 2) (sign_extended w (w * 2) y) in
    by_bits w _ (pos 0) e 0 (ap (λ (n : ℕ). neg_ℤ (pos n)) z) bits (plus_product w 0 some (omega arith))
one_minus w (suc x) y some lx ly ty e is =
    let n : ℕ = 2 ^ w - y in
    let pn : 1 ≤ n = omega (arith, ty) in
    let ln : n ≤ 2 ^ (w - 1) = omega (arith, ly, halves w some) in
    let some_product : suc x * 1 ≤ suc x * n = mul-le-mul_left (suc x) pn in
    let p : ℕ = suc x * n - 1 in
    let same : suc x * n ≡ suc p = omega (arith, some_product) in
    let le : suc x * n ≤ 2 ^ (w - 1) * 2 ^ (w - 1) = sizes (2 ^ (w - 1)) (suc x) n (omega (arith, lx)) ln in
    let bits : e ≡ 2 ^ (w * 2) - suc p = is ∙ ap (λ (k : ℕ). (k * sign_extended w (w * 2) y) % 2 ^ (w * 2)) (sign_low w (w * 2) (suc x) lx)
    ∙ mixed_bits w x y some lx ly ty ∙ ap (λ (k : ℕ). 2 ^ (w * 2) - k) same in
    by_bits w _ (negsuc p) e (2 ^ (w * 2) - suc p) (ap (λ (k : ℕ). neg_ℤ (pos k)) same) bits (minus_product w p some (omega (arith, le, same)))

sized : (w x : ℕ) → x < 2 ^ w → suc (2 ^ w - 1 - x) ≡ 2 ^ w - x
sized w x lt = omega (arith, lt)

pub product_fits : (w x y : ℕ) → 1 ≤ w → x < 2 ^ w → y < 2 ^ w → (e : ℕ) → e ≡ product_in (w * 2) (sign_extended w (w * 2) x) (sign_extended w (w * 2) y)
    → Fits w (signed_of w x *ℤ signed_of w y) (e % 2 ^ w) (test w e)
product_fits w x y some tx ty e is = go (signed w x some tx) (signed w y some ty)
  where
    at : (a b c d : ℤ) → a ≡ c → b ≡ d → a *ℤ b ≡ c *ℤ d
    at a b c d p q = ap (λ z. z *ℤ b) p ∙ ap (λ z. c *ℤ z) q

    go : Signed w x → Signed w y → Fits w (signed_of w x *ℤ signed_of w y) (e % 2 ^ w) (test w e)
    go (plus hx vx bx) (plus hy vy by) =
        by_bits w _ (pos (x * y)) e (x * y) (at _ _ _ _ vx vy ∙ pos-*ℤ-pos x y) (is ∙ product_pp w x y some hx hy)
        (plus_product w (x * y) some (sizes (2 ^ (w - 1)) x y (omega (arith, hx)) (omega (arith, hy))))
    go (plus hx vx bx) (minus hy vy by) =
        by_bits w _ (neg_ℤ (pos (x * (2 ^ w - y)))) e e (at _ _ _ _ vx vy ∙ pos-*ℤ-negsuc x (2 ^ w - 1 - y) ∙ ap (λ (n : ℕ). neg_ℤ (pos (x * n))) (sized w y ty)) refl
        (one_minus w x y some hx hy ty e is)
    go (minus hx vx bx) (plus hy vy by) =
        by_bits w _ (neg_ℤ (pos (y * (2 ^ w - x)))) e e (at _ _ _ _ vx vy ∙ negsuc-*ℤ-pos (2 ^ w - 1 - x) y ∙ ap (λ (n : ℕ). neg_ℤ (pos n)) (ap (λ (n : ℕ). n * y) (sized w x tx) ∙ mul_comm (2 ^ w - x) y)) refl
        (one_minus w y x some hy hx tx e (is ∙ turned (w * 2) (sign_extended w (w * 2) x) (sign_extended w (w * 2) y)))
    go (minus hx vx bx) (minus hy vy by) =
        by_bits w _ (pos ((2 ^ w - x) * (2 ^ w - y))) e ((2 ^ w - x) * (2 ^ w - y))
        (at _ _ _ _ vx vy ∙ negsuc-*ℤ-negsuc (2 ^ w - 1 - x) (2 ^ w - 1 - y) ∙ ap (λ (n : ℕ). pos (n * suc (2 ^ w - 1 - y))) (sized w x tx) ∙ ap (λ (n : ℕ). pos ((2 ^ w - x) * n)) (sized w y ty))
        (is ∙ product_mm w x y some hx tx hy ty)
        (plus_product w ((2 ^ w - x) * (2 ^ w - y)) some (sizes (2 ^ (w - 1)) (2 ^ w - x) (2 ^ w - y) (omega (arith, hx, halves w some)) (omega (arith, hy, halves w some))))
