-- Differences of numbers in two's complement.
use Rattle.std.proofs.Common.{◌≡◌, ℕ, ◌+◌, ◌-◌, ◌<◌, ◌≤◌, ◌^◌, ◌⊎◌, inl, inr, refl, sym, ap, ◌∙◌, arith, pos, negsuc, ◌-ℤ◌, bit_and, bit_xor}
use Rattle.std.proofs.Math.Nat.{mod-lt}
use Rattle.std.proofs.lemmas.Int.{ints}
use Rattle.std.proofs.lemmas.Bool.{cases_lt}
use Rattle.std.proofs.lemmas.Nat.{pow_pos}
use Rattle.lv_base.specs.Integers.{signed_of}
use Rattle.bv_term.specs.Numbers.{difference_in, bit_of}
use Rattle.word_laws.proofs.Residues.{halves, wrap_low, wrap_high}
use Rattle.word_laws.proofs.Sums.{Fits, within, below, above, fits-by, Signed, plus, minus, signed, two, three, difference_test}

-- the low bits of a difference
pub difference_low : (w x y : ℕ) → x < 2 ^ w → y < 2 ^ w → ((difference_in w x y + y ≡ x) × (y ≤ x)) ⊎ ((difference_in w x y + y ≡ x + 2 ^ w) × (x < y))
difference_low w x y lx ly = by (cases_lt x y)
  where
    by : (x < y) ⊎ (y ≤ x) → ((difference_in w x y + y ≡ x) × (y ≤ x)) ⊎ ((difference_in w x y + y ≡ x + 2 ^ w) × (x < y))
    by (inl h) = inr ((let e : difference_in w x y ≡ x + (2 ^ w - y) = wrap_low (x + (2 ^ w - y)) (2 ^ w) (omega (arith, h, ly)) in omega (arith, e, h, ly)), h)
    by (inr h) = inl ((let e : difference_in w x y ≡ x + (2 ^ w - y) - 2 ^ w = wrap_high (x + (2 ^ w - y)) (2 ^ w) (omega (arith, h, ly)) (omega (arith, lx, ly)) in omega (arith, e, h, ly)), h)

-- the values by their signs; the low bits of the difference are d
both_plus : (w x y d : ℕ) → 1 ≤ w → x < 2 ^ (w - 1) → y < 2 ^ (w - 1) → ((d + y ≡ x) × (y ≤ x)) ⊎ ((d + y ≡ x + 2 ^ w) × (x < y)) → d < 2 ^ w → Signed w d
    → Fits w (pos x -ℤ pos y) d (difference_test 0 0 (bit_of (w - 1) d))
both_plus w x y d some lx ly (inl e) ld (plus h v b) = fits-by w _ _ d d _ _ refl refl (ap (difference_test 0 0) b)
    (within (omega (arith, ints, e.0, e.1, h, lx)) (omega (arith, ints, e.0, e.1, h, lx)) (omega (arith, ints, e.0, e.1) ∙ sym v) refl)
both_plus w x y d some lx ly (inl e) ld (minus h v b) = absurd (omega (arith, e.0, h, lx))
both_plus w x y d some lx ly (inr e) ld (plus h v b) = absurd (omega (arith, e.0, h, ly, halves w some))
both_plus w x y d some lx ly (inr e) ld (minus h v b) = fits-by w _ _ d d _ _ refl refl (ap (difference_test 0 0) b)
    (within (omega (arith, ints, e.0, h, ly, ld, halves w some)) (omega (arith, ints, e.0, h, lx, e.1, halves w some)) (omega (arith, ints, e.0, e.1, ld, halves w some) ∙ sym v) refl)

plus_minus : (w x y d : ℕ) → 1 ≤ w → x < 2 ^ (w - 1) → 2 ^ (w - 1) ≤ y → y < 2 ^ w → ((d + y ≡ x) × (y ≤ x)) ⊎ ((d + y ≡ x + 2 ^ w) × (x < y)) → Signed w d
    → Fits w (pos x -ℤ negsuc (2 ^ w - 1 - y)) d (difference_test 0 1 (bit_of (w - 1) d))
plus_minus w x y d some lx ly ty (inl e) s = absurd (omega (arith, e.1, lx, ly))
plus_minus w x y d some lx ly ty (inr e) (plus h v b) = fits-by w _ _ d d _ _ refl refl (ap (difference_test 0 1) b)
    (within (omega (arith, ints, e.0, h, ty)) (omega (arith, ints, e.0, h, ty)) (omega (arith, ints, e.0, ty) ∙ sym v) refl)
plus_minus w x y d some lx ly ty (inr e) (minus h v b) = fits-by w _ _ d d _ _ refl refl (ap (difference_test 0 1) b) (above (omega (arith, ints, e.0, h, ty, pow_pos (w - 1))) refl)

minus_plus : (w x y d : ℕ) → 1 ≤ w → 2 ^ (w - 1) ≤ x → x < 2 ^ w → y < 2 ^ (w - 1) → ((d + y ≡ x) × (y ≤ x)) ⊎ ((d + y ≡ x + 2 ^ w) × (x < y)) → Signed w d
    → Fits w (negsuc (2 ^ w - 1 - x) -ℤ pos y) d (difference_test 1 0 (bit_of (w - 1) d))
minus_plus w x y d some lx tx ly (inr e) s = absurd (omega (arith, e.1, lx, ly))
minus_plus w x y d some lx tx ly (inl e) (plus h v b) = fits-by w _ _ d d _ _ refl refl (ap (difference_test 1 0) b) (below (omega (arith, ints, e.0, h, tx, halves w some)) refl)
minus_plus w x y d some lx tx ly (inl e) (minus h v b) = fits-by w _ _ d d _ _ refl refl (ap (difference_test 1 0) b)
    (within (omega (arith, ints, e.0, h, tx, halves w some)) (omega (arith, ints, e.0, tx, halves w some)) (omega (arith, ints, e.0, tx) ∙ sym v) refl)

both_minus : (w x y d : ℕ) → 1 ≤ w → 2 ^ (w - 1) ≤ x → x < 2 ^ w → 2 ^ (w - 1) ≤ y → y < 2 ^ w → ((d + y ≡ x) × (y ≤ x)) ⊎ ((d + y ≡ x + 2 ^ w) × (x < y)) → d < 2 ^ w → Signed w d
    → Fits w (negsuc (2 ^ w - 1 - x) -ℤ negsuc (2 ^ w - 1 - y)) d (difference_test 1 1 (bit_of (w - 1) d))
both_minus w x y d some lx tx ly ty (inl e) ld (plus h v b) = fits-by w _ _ d d _ _ refl refl (ap (difference_test 1 1) b)
    (within (omega (arith, ints, e.0, h, tx, ty)) (omega (arith, ints, e.0, h, tx, ty)) (omega (arith, ints, e.0, tx, ty) ∙ sym v) refl)
both_minus w x y d some lx tx ly ty (inl e) ld (minus h v b) = absurd (omega (arith, e.0, h, tx, ly, halves w some))
both_minus w x y d some lx tx ly ty (inr e) ld (plus h v b) = absurd (omega (arith, e.0, h, lx, ty, halves w some))
both_minus w x y d some lx tx ly ty (inr e) ld (minus h v b) = fits-by w _ _ d d _ _ refl refl (ap (difference_test 1 1) b)
    (within (omega (arith, ints, e.0, h, tx, ty, halves w some)) (omega (arith, ints, e.0, e.1, tx, ty, halves w some)) (omega (arith, ints, e.0, e.1, ld, tx, ty) ∙ sym v) refl)

difference_of : (w x y : ℕ) → 1 ≤ w → x < 2 ^ w → y < 2 ^ w → Signed w x → Signed w y → difference_in w x y < 2 ^ w
    → ((difference_in w x y + y ≡ x) × (y ≤ x)) ⊎ ((difference_in w x y + y ≡ x + 2 ^ w) × (x < y)) → Signed w (difference_in w x y)
    → Fits w (signed_of w x -ℤ signed_of w y) (difference_in w x y) (difference_test (bit_of (w - 1) x) (bit_of (w - 1) y) (bit_of (w - 1) (difference_in w x y)))
difference_of w x y some tx ty (plus hx vx bx) (plus hy vy by) ld e s =
    fits-by w _ _ _ _ _ _ (two ◌-ℤ◌ _ _ _ _ vx vy) refl (three difference_test _ _ _ _ _ _ bx by refl) (both_plus w x y (difference_in w x y) some hx hy e ld s)
difference_of w x y some tx ty (plus hx vx bx) (minus hy vy by) ld e s =
    fits-by w _ _ _ _ _ _ (two ◌-ℤ◌ _ _ _ _ vx vy) refl (three difference_test _ _ _ _ _ _ bx by refl) (plus_minus w x y (difference_in w x y) some hx hy ty e s)
difference_of w x y some tx ty (minus hx vx bx) (plus hy vy by) ld e s =
    fits-by w _ _ _ _ _ _ (two ◌-ℤ◌ _ _ _ _ vx vy) refl (three difference_test _ _ _ _ _ _ bx by refl) (minus_plus w x y (difference_in w x y) some hx tx hy e s)
difference_of w x y some tx ty (minus hx vx bx) (minus hy vy by) ld e s =
    fits-by w _ _ _ _ _ _ (two ◌-ℤ◌ _ _ _ _ vx vy) refl (three difference_test _ _ _ _ _ _ bx by refl) (both_minus w x y (difference_in w x y) some hx tx hy ty e ld s)

pub difference_fits : (w x y : ℕ) → 1 ≤ w → x < 2 ^ w → y < 2 ^ w
    → Fits w (signed_of w x -ℤ signed_of w y) (difference_in w x y) (bit_and (bit_xor (bit_of (w - 1) x) (bit_of (w - 1) y)) (bit_xor (bit_of (w - 1) x) (bit_of (w - 1) (difference_in w x y))))
difference_fits w x y some tx ty =
    let ld : difference_in w x y < 2 ^ w = mod-lt (x + (2 ^ w - y)) (pow_pos w) in
    difference_of w x y some tx ty (signed w x some tx) (signed w y some ty) ld (difference_low w x y tx ty) (signed w (difference_in w x y) some ld)
