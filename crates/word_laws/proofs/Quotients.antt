-- Quotients and remainders of numbers in two's complement, cut towards zero.
use Rattle.std.proofs.Common.{◌≡◌, ℕ, zero, suc, ◌+◌, ◌-◌, ◌*◌, ◌/◌, ◌<◌, ◌≤◌, ◌^◌, ◌%◌, ◌==◌, ◌⊎◌, inl, inr, refl, sym, ap, ◌∙◌, subst, arith, Bool, true, false, if◌then◌else◌, eq-eqb, pos, negsuc, neg_ℤ, ◌≤ℤ◌, bit_and}
use Rattle.std.specs.Prelude.{int_div}
use Rattle.std.specs.Int.Bits.{and_zero_l, and_zero_r}
use Rattle.std.proofs.Math.Nat.{mod-le, mod_self, div-le_self, div-mul-le_self, div-one, mul-le-mul_left}
use Rattle.std.proofs.lemmas.Int.{ints}
use Rattle.std.proofs.lemmas.Bool.{cases_lt, ne_eqb}
use Rattle.std.proofs.lemmas.Nat.{pow_pos}
use Rattle.lv_base.specs.Integers.{signed_of}
use Rattle.bv_term.specs.Numbers.{difference_in, truth}
use Rattle.word_laws.proofs.Residues.{halves, signed_low, signed_high, wrap_low}
use Rattle.word_laws.proofs.Sums.{Fits, within, above, fits-by}

-- the opposite's low bits
pub opposite : (w q : ℕ) → 1 ≤ w → q ≤ 2 ^ (w - 1) → signed_of w (difference_in w 0 q) ≡ neg_ℤ (pos q)
opposite w zero some le =
    let e : 0 + (2 ^ w - 0) ≡ 2 ^ w = omega arith in
    ap (signed_of w) (ap (λ (n : ℕ). n % 2 ^ w) e ∙ mod_self (2 ^ w)) ∙ signed_low w 0 (pow_pos (w - 1))
opposite w (suc q) some le =
    let e : difference_in w 0 (suc q) ≡ 2 ^ w - suc q = wrap_low (0 + (2 ^ w - suc q)) (2 ^ w) (omega (arith, le, halves w some)) ∙ omega arith in
    let back : 2 ^ w - 1 - (2 ^ w - suc q) ≡ q = omega (arith, le, halves w some) in
    ap (signed_of w) e ∙ signed_high w (2 ^ w - suc q) (omega (arith, le, halves w some)) ∙ ap negsuc back

pub magnitude_low : (w x : ℕ) → 1 ≤ w → 2 ^ (w - 1) ≤ x → x < 2 ^ w → difference_in w 0 x ≡ 2 ^ w - x
magnitude_low w x some le lt = wrap_low (0 + (2 ^ w - x)) (2 ^ w) (omega (arith, le, halves w some, pow_pos (w - 1))) ∙ omega arith

neg_low : (q h : ℕ) → q ≤ suc h → negsuc h ≤ℤ neg_ℤ (pos q)
neg_low zero h le = omega (arith, ints)
neg_low (suc q) h le = omega (arith, ints, le)

neg_high : (q h : ℕ) → neg_ℤ (pos q) ≤ℤ pos h
neg_high zero h = omega (arith, ints)
neg_high (suc q) h = omega (arith, ints)

not_both : (p q : Bool) → p ≡ false → bit_and (truth p) (truth q) ≡ 0
not_both p q e = ap (λ b. bit_and (truth b) (truth q)) e ∙ and_zero_l (truth q)

not_both_right : (p q : Bool) → q ≡ false → bit_and (truth p) (truth q) ≡ 0
not_both_right p q e = ap (λ b. bit_and (truth p) (truth b)) e ∙ and_zero_r (truth p)

-- where the least value is divided by -1
abbrev pub test : ℕ → ℕ → ℕ → ℕ
test w x y = bit_and (truth (x == 2 ^ (w - 1))) (truth (y == 2 ^ w - 1))

-- a quotient of two negative values is at most the least one's size, which it reaches where that is divided by -1
great_quotient : (h m n : ℕ) → 0 < h → m ≤ h → 0 < n → h ≤ m / n → (m ≡ h) × (n ≡ 1)
great_quotient h m n some le pos_n ge =
    let same : m ≡ h = omega (arith, ge, le, div-le_self m n) in
    let q : m / n ≡ h = omega (arith, ge, le, div-le_self m n) in
    let product : h * n ≤ m = subst (λ (k : ℕ). k * n ≤ m) q (div-mul-le_self m n) in
    (same, go (cases_lt 1 n) product)
  where
    go : (1 < n) ⊎ (n ≤ 1) → h * n ≤ m → n ≡ 1
    go (inl lt) product = let more : h * 2 ≤ h * n = mul-le-mul_left h lt in absurd (omega (arith, more, product, le, some))
    go (inr le1) product = omega (arith, le1, pos_n)

one_sign : (w m n : ℕ) → 1 ≤ w → m < 2 ^ (w - 1) → Fits w (pos (m / n)) (m / n) 0
one_sign w m n some lt =
    let le : m / n ≤ m = div-le_self m n in
    within (omega (arith, ints)) (omega (arith, ints, le, lt)) (sym (signed_low w (m / n) (omega (arith, le, lt)))) refl

two_signs : (w m n : ℕ) → 1 ≤ w → m ≤ 2 ^ (w - 1) → Fits w (neg_ℤ (pos (m / n))) (difference_in w 0 (m / n)) 0
two_signs w m n some le =
    let less : m / n ≤ m = div-le_self m n in
    within (neg_low (m / n) (2 ^ (w - 1) - 1) (omega (arith, less, le))) (neg_high (m / n) (2 ^ (w - 1) - 1)) (sym (opposite w (m / n) some (omega (arith, less, le)))) refl

both_minus : (w x y : ℕ) → 1 ≤ w → 2 ^ (w - 1) ≤ x → x < 2 ^ w → 2 ^ (w - 1) ≤ y → y < 2 ^ w
    → Fits w (pos ((2 ^ w - x) / (2 ^ w - y))) ((2 ^ w - x) / (2 ^ w - y)) (test w x y)
both_minus w x y some lx tx ly ty = go (cases_lt ((2 ^ w - x) / (2 ^ w - y)) (2 ^ (w - 1)))
  where
    go : ((2 ^ w - x) / (2 ^ w - y) < 2 ^ (w - 1)) ⊎ (2 ^ (w - 1) ≤ (2 ^ w - x) / (2 ^ w - y)) → Fits w (pos ((2 ^ w - x) / (2 ^ w - y))) ((2 ^ w - x) / (2 ^ w - y)) (test w x y)
    go (inl lt) =
        within (omega (arith, ints)) (omega (arith, ints, lt)) (sym (signed_low w ((2 ^ w - x) / (2 ^ w - y)) lt)) (none (cases_lt (2 ^ (w - 1)) x))
      where
        none : (2 ^ (w - 1) < x) ⊎ (x ≤ 2 ^ (w - 1)) → test w x y ≡ 0
        none (inl h) = not_both (x == 2 ^ (w - 1)) (y == 2 ^ w - 1) (ne_eqb x (2 ^ (w - 1)) (λ e. omega (arith, e, h)))
        none (inr h) = not_both_right (x == 2 ^ (w - 1)) (y == 2 ^ w - 1) (ne_eqb y (2 ^ w - 1) (λ e.
            let one : 2 ^ w - y ≡ 1 = omega (arith, e, ty) in
            let all : (2 ^ w - x) / (2 ^ w - y) ≡ 2 ^ w - x = ap (λ (n : ℕ). (2 ^ w - x) / n) one ∙ div-one (2 ^ w - x) in
            omega (arith, all, lt, h, lx, halves w some)))
    go (inr ge) =
        let g = great_quotient (2 ^ (w - 1)) (2 ^ w - x) (2 ^ w - y) (pow_pos (w - 1)) (omega (arith, lx, halves w some)) (omega (arith, ty)) ge in
        let ex : (x == 2 ^ (w - 1)) ≡ true = eq-eqb x (2 ^ (w - 1)) (omega (arith, g.0, tx, halves w some)) in
        let ey : (y == 2 ^ w - 1) ≡ true = eq-eqb y (2 ^ w - 1) (omega (arith, g.1, ty)) in
        above (omega (arith, ints, ge, pow_pos (w - 1))) (ap (λ b. bit_and (truth b) (truth (y == 2 ^ w - 1))) ex ∙ ap (λ b. bit_and (truth true) (truth b)) ey)

-- ---- By the signs of the operands

-- the size of a number in two's complement
pub size_minus : (w x : ℕ) → x < 2 ^ w → suc (2 ^ w - 1 - x) ≡ 2 ^ w - x
size_minus w x lt = omega (arith, lt)

-- the low bits of a quotient, by the operands' sizes and whether their signs differ
abbrev pub signed_quotient : ℕ → Bool → ℕ → ℕ → ℕ
signed_quotient w differ m n = if differ then difference_in w 0 (m / n) else m / n

pub quotient_pp : (w x y : ℕ) → 1 ≤ w → x < 2 ^ (w - 1) → Fits w (int_div (pos x) (pos y)) (x / y) (test w x y)
quotient_pp w x y some lx = fits-by w _ _ _ _ _ _ refl refl (not_both (x == 2 ^ (w - 1)) (y == 2 ^ w - 1) (ne_eqb x (2 ^ (w - 1)) (λ e. omega (arith, e, lx)))) (one_sign w x y some lx)

pub quotient_pm : (w x y : ℕ) → 1 ≤ w → x < 2 ^ (w - 1) → y < 2 ^ w → Fits w (int_div (pos x) (negsuc (2 ^ w - 1 - y))) (difference_in w 0 (x / (2 ^ w - y))) (test w x y)
quotient_pm w x y some lx ty =
    fits-by w _ _ _ _ _ _ (ap (λ (n : ℕ). neg_ℤ (pos (x / n))) (size_minus w y ty)) refl
    (not_both (x == 2 ^ (w - 1)) (y == 2 ^ w - 1) (ne_eqb x (2 ^ (w - 1)) (λ e. omega (arith, e, lx)))) (two_signs w x (2 ^ w - y) some (omega (arith, lx)))

pub quotient_mp : (w x y : ℕ) → 1 ≤ w → 2 ^ (w - 1) ≤ x → x < 2 ^ w → y < 2 ^ (w - 1) → Fits w (int_div (negsuc (2 ^ w - 1 - x)) (pos y)) (difference_in w 0 ((2 ^ w - x) / y)) (test w x y)
quotient_mp w x y some lx tx ly =
    fits-by w _ _ _ _ _ _ (ap (λ (n : ℕ). neg_ℤ (pos (n / y))) (size_minus w x tx)) refl
    (not_both_right (x == 2 ^ (w - 1)) (y == 2 ^ w - 1) (ne_eqb y (2 ^ w - 1) (λ e. omega (arith, e, ly, lx, tx, halves w some)))) (two_signs w (2 ^ w - x) y some (omega (arith, lx, halves w some)))

pub quotient_mm : (w x y : ℕ) → 1 ≤ w → 2 ^ (w - 1) ≤ x → x < 2 ^ w → 2 ^ (w - 1) ≤ y → y < 2 ^ w → Fits w (int_div (negsuc (2 ^ w - 1 - x)) (negsuc (2 ^ w - 1 - y))) ((2 ^ w - x) / (2 ^ w - y)) (test w x y)
quotient_mm w x y some lx tx ly ty =
    fits-by w _ _ _ _ _ _ (ap (λ (n : ℕ). pos (n / suc (2 ^ w - 1 - y))) (size_minus w x tx) ∙ ap (λ (n : ℕ). pos ((2 ^ w - x) / n)) (size_minus w y ty)) refl refl (both_minus w x y some lx tx ly ty)

-- what is left has the sign of the first operand
pub rest_plus : (w m n : ℕ) → 1 ≤ w → m < 2 ^ (w - 1) → pos (m % n) ≡ signed_of w (m % n)
rest_plus w m n some lt = sym (signed_low w (m % n) (omega (arith, lt, mod-le m n)))

pub rest_minus : (w m n : ℕ) → 1 ≤ w → m ≤ 2 ^ (w - 1) → neg_ℤ (pos (m % n)) ≡ signed_of w (difference_in w 0 (m % n))
rest_minus w m n some le = sym (opposite w (m % n) some (omega (arith, le, mod-le m n)))
