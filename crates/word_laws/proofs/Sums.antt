-- Sums and differences of numbers in two's complement.
use Rattle.std.proofs.Common.{◌≡◌, ℕ, ◌+◌, ◌-◌, ◌<◌, ◌≤◌, ◌^◌, ◌⊎◌, inl, inr, refl, sym, ap, ◌∙◌, subst, arith, ℤ, pos, negsuc, ◌+ℤ◌, ◌≤ℤ◌, bit_and, bit_xor}
use Rattle.std.specs.Prelude.{◌<ℤ◌}
use Rattle.std.proofs.Math.Nat.{mod-lt}
use Rattle.std.proofs.lemmas.Int.{ints}
use Rattle.std.proofs.lemmas.Bool.{cases_lt}
use Rattle.std.proofs.lemmas.Nat.{pow_pos}
use Rattle.lv_base.specs.Integers.{signed_of}
use Rattle.bv_term.specs.Numbers.{sum_in, complement_in, bit_of}
use Rattle.word_laws.proofs.Residues.{halves, signed_low, signed_high, top_low, top_high, wrap_low, wrap_high}

-- An exact result and its low bits: where the kind of w bits holds the result, the bits are its own and the test is 0; elsewhere the test
-- is 1.
pub data Fits (w : ℕ) (z : ℤ) (r t : ℕ) : Type 0 where
  within : negsuc (2 ^ (w - 1) - 1) ≤ℤ z → z ≤ℤ pos (2 ^ (w - 1) - 1) → z ≡ signed_of w r → t ≡ 0 → Fits w z r t
  below : z <ℤ negsuc (2 ^ (w - 1) - 1) → t ≡ 1 → Fits w z r t
  above : pos (2 ^ (w - 1) - 1) <ℤ z → t ≡ 1 → Fits w z r t

pub fits-by : (w : ℕ) (z y : ℤ) (r q t u : ℕ) → z ≡ y → r ≡ q → t ≡ u → Fits w y q u → Fits w z r t
fits-by w z y r q t u e f g h =
    subst (λ (x : ℤ). Fits w x r t) (sym e) (subst (λ (x : ℕ). Fits w y x t) (sym f) (subst (λ (x : ℕ). Fits w y q x) (sym g) h))

-- a number in two's complement and its top bit
pub data Signed (w x : ℕ) : Type 0 where
  plus : x < 2 ^ (w - 1) → signed_of w x ≡ pos x → bit_of (w - 1) x ≡ 0 → Signed w x
  minus : 2 ^ (w - 1) ≤ x → signed_of w x ≡ negsuc (2 ^ w - 1 - x) → bit_of (w - 1) x ≡ 1 → Signed w x

pub signed : (w x : ℕ) → 1 ≤ w → x < 2 ^ w → Signed w x
signed w x some lt = by (cases_lt x (2 ^ (w - 1)))
  where
    by : (x < 2 ^ (w - 1)) ⊎ (2 ^ (w - 1) ≤ x) → Signed w x
    by (inl h) = plus h (signed_low w x h) (top_low w x h)
    by (inr h) = minus h (signed_high w x h) (top_high w x some h lt)

pub two : (g : ℤ → ℤ → ℤ) (a b c d : ℤ) → a ≡ b → c ≡ d → g a c ≡ g b d
two g a b c d p q = ap (λ x. g x c) p ∙ ap (g b) q

-- the tests, by their top bits
abbrev sum_test : ℕ → ℕ → ℕ → ℕ
sum_test a b c = bit_and (complement_in 1 (bit_xor a b)) (bit_xor a c)

abbrev pub difference_test : ℕ → ℕ → ℕ → ℕ
difference_test a b c = bit_and (bit_xor a b) (bit_xor a c)

pub three : (g : ℕ → ℕ → ℕ → ℕ) (a b c d x y : ℕ) → a ≡ b → c ≡ d → x ≡ y → g a c x ≡ g b d y
three g a b c d x y p q r = ap (λ z. g z c x) p ∙ (ap (λ z. g b z x) q ∙ ap (g b d) r)

-- both are of one sign, or of two; the sum's low bits are s
sum_plus : (w x y s : ℕ) → 1 ≤ w → x < 2 ^ (w - 1) → y < 2 ^ (w - 1) → s ≡ x + y → Signed w s → Fits w (pos x +ℤ pos y) s (sum_test 0 0 (bit_of (w - 1) s))
sum_plus w x y s some lx ly e (plus h v b) = fits-by w _ _ s s _ _ refl refl (ap (sum_test 0 0) b)
    (within (omega (arith, ints, e, h)) (omega (arith, ints, e, h)) (ap pos (sym e) ∙ sym v) refl)
sum_plus w x y s some lx ly e (minus h v b) = fits-by w _ _ s s _ _ refl refl (ap (sum_test 0 0) b) (above (omega (arith, ints, e, h, pow_pos (w - 1))) refl)

sum_mixed : (w x y s : ℕ) → 1 ≤ w → x < 2 ^ (w - 1) → 2 ^ (w - 1) ≤ y → y < 2 ^ w → (s ≡ x + y) ⊎ ((s + 2 ^ w ≡ x + y) × (2 ^ w ≤ x + y)) → s < 2 ^ w → Signed w s
    → Fits w (pos x +ℤ negsuc (2 ^ w - 1 - y)) s (sum_test 0 1 (bit_of (w - 1) s))
sum_mixed w x y s some lx ly ty (inl e) ls (plus h v b) = absurd (omega (arith, e, h, ly))
sum_mixed w x y s some lx ly ty (inl e) ls (minus h v b) = fits-by w _ _ s s _ _ refl refl (ap (sum_test 0 1) b)
    (within (omega (arith, ints, e, h, ls, halves w some)) (omega (arith, ints, e, h, ls, halves w some)) (omega (arith, ints, e, h, ls, halves w some) ∙ sym v) refl)
sum_mixed w x y s some lx ly ty (inr e) ls (plus h v b) = fits-by w _ _ s s _ _ refl refl (ap (sum_test 0 1) b)
    (within (omega (arith, ints, e.0, h, ls, halves w some)) (omega (arith, ints, e.0, h, ls, halves w some)) (omega (arith, ints, e.0, h, ls, ty, halves w some) ∙ sym v) refl)
sum_mixed w x y s some lx ly ty (inr e) ls (minus h v b) = absurd (omega (arith, e.0, h, lx, ty, halves w some))

sum_minus : (w x y s : ℕ) → 1 ≤ w → 2 ^ (w - 1) ≤ x → x < 2 ^ w → 2 ^ (w - 1) ≤ y → y < 2 ^ w → s + 2 ^ w ≡ x + y → Signed w s
    → Fits w (negsuc (2 ^ w - 1 - x) +ℤ negsuc (2 ^ w - 1 - y)) s (sum_test 1 1 (bit_of (w - 1) s))
sum_minus w x y s some lx tx ly ty e (plus h v b) = fits-by w _ _ s s _ _ refl refl (ap (sum_test 1 1) b) (below (omega (arith, ints, e, h, tx, ty, halves w some)) refl)
sum_minus w x y s some lx tx ly ty e (minus h v b) = fits-by w _ _ s s _ _ refl refl (ap (sum_test 1 1) b)
    (within (omega (arith, ints, e, h, tx, ty, halves w some)) (omega (arith, ints, e, h, tx, ty, halves w some)) (omega (arith, ints, e, h, tx, ty, halves w some) ∙ sym v) refl)

-- the low bits of a sum
sum_low : (w x y : ℕ) → x < 2 ^ w → y < 2 ^ w → ((sum_in w x y ≡ x + y) × (x + y < 2 ^ w)) ⊎ ((sum_in w x y + 2 ^ w ≡ x + y) × (2 ^ w ≤ x + y))
sum_low w x y lx ly = by (cases_lt (x + y) (2 ^ w))
  where
    by : (x + y < 2 ^ w) ⊎ (2 ^ w ≤ x + y) → ((sum_in w x y ≡ x + y) × (x + y < 2 ^ w)) ⊎ ((sum_in w x y + 2 ^ w ≡ x + y) × (2 ^ w ≤ x + y))
    by (inl h) = inl (wrap_low (x + y) (2 ^ w) h, h)
    by (inr h) = inr ((let e : sum_in w x y ≡ x + y - 2 ^ w = wrap_high (x + y) (2 ^ w) h (omega (arith, lx, ly)) in omega (arith, e, h)), h)

turned : (w x y : ℕ) → negsuc (2 ^ w - 1 - x) +ℤ pos y ≡ pos y +ℤ negsuc (2 ^ w - 1 - x)
turned w x y = omega (arith, ints)

-- where the signs differ there is no overflow, whichever comes first
turned_test : (w s : ℕ) → Signed w s → sum_test 1 0 (bit_of (w - 1) s) ≡ sum_test 0 1 (bit_of (w - 1) s)
turned_test w s (plus h v b) = ap (sum_test 1 0) b ∙ sym (ap (sum_test 0 1) b)
turned_test w s (minus h v b) = ap (sum_test 1 0) b ∙ sym (ap (sum_test 0 1) b)

sum_of : (w x y : ℕ) → 1 ≤ w → x < 2 ^ w → y < 2 ^ w → Signed w x → Signed w y → sum_in w x y < 2 ^ w
    → ((sum_in w x y ≡ x + y) × (x + y < 2 ^ w)) ⊎ ((sum_in w x y + 2 ^ w ≡ x + y) × (2 ^ w ≤ x + y)) → Signed w (sum_in w x y)
    → Fits w (signed_of w x +ℤ signed_of w y) (sum_in w x y) (sum_test (bit_of (w - 1) x) (bit_of (w - 1) y) (bit_of (w - 1) (sum_in w x y)))
sum_of w x y some tx ty (plus hx vx bx) (plus hy vy by) ls (inl e) s =
    fits-by w _ _ _ _ _ _ (two ◌+ℤ◌ _ _ _ _ vx vy) refl (three sum_test _ _ _ _ _ _ bx by refl) (sum_plus w x y (sum_in w x y) some hx hy e.0 s)
sum_of w x y some tx ty (plus hx vx bx) (plus hy vy by) ls (inr e) s = absurd (omega (arith, hx, hy, e.1, halves w some))
sum_of w x y some tx ty (plus hx vx bx) (minus hy vy by) ls (inl e) s =
    fits-by w _ _ _ _ _ _ (two ◌+ℤ◌ _ _ _ _ vx vy) refl (three sum_test _ _ _ _ _ _ bx by refl) (sum_mixed w x y (sum_in w x y) some hx hy ty (inl e.0) ls s)
sum_of w x y some tx ty (plus hx vx bx) (minus hy vy by) ls (inr e) s =
    fits-by w _ _ _ _ _ _ (two ◌+ℤ◌ _ _ _ _ vx vy) refl (three sum_test _ _ _ _ _ _ bx by refl) (sum_mixed w x y (sum_in w x y) some hx hy ty (inr e) ls s)
sum_of w x y some tx ty (minus hx vx bx) (plus hy vy by) ls (inl e) s =
    fits-by w _ _ _ _ _ _ (two ◌+ℤ◌ _ _ _ _ vx vy ∙ turned w x y) refl (three sum_test _ _ _ _ _ _ bx by refl ∙ turned_test w (sum_in w x y) s)
    (sum_mixed w y x (sum_in w x y) some hy hx tx (inl (omega (arith, e.0))) ls s)
sum_of w x y some tx ty (minus hx vx bx) (plus hy vy by) ls (inr e) s =
    fits-by w _ _ _ _ _ _ (two ◌+ℤ◌ _ _ _ _ vx vy ∙ turned w x y) refl (three sum_test _ _ _ _ _ _ bx by refl ∙ turned_test w (sum_in w x y) s)
    (sum_mixed w y x (sum_in w x y) some hy hx tx (inr (omega (arith, e.0), omega (arith, e.1))) ls s)
sum_of w x y some tx ty (minus hx vx bx) (minus hy vy by) ls (inl e) s = absurd (omega (arith, hx, hy, e.0, e.1, halves w some))
sum_of w x y some tx ty (minus hx vx bx) (minus hy vy by) ls (inr e) s =
    fits-by w _ _ _ _ _ _ (two ◌+ℤ◌ _ _ _ _ vx vy) refl (three sum_test _ _ _ _ _ _ bx by refl) (sum_minus w x y (sum_in w x y) some hx tx hy ty e.0 s)

pub sum_fits : (w x y : ℕ) → 1 ≤ w → x < 2 ^ w → y < 2 ^ w
    → Fits w (signed_of w x +ℤ signed_of w y) (sum_in w x y) (bit_and (complement_in 1 (bit_xor (bit_of (w - 1) x) (bit_of (w - 1) y))) (bit_xor (bit_of (w - 1) x) (bit_of (w - 1) (sum_in w x y))))
sum_fits w x y some tx ty =
    let ls : sum_in w x y < 2 ^ w = mod-lt (x + y) (pow_pos w) in
    sum_of w x y some tx ty (signed w x some tx) (signed w y some ty) ls (sum_low w x y tx ty) (signed w (sum_in w x y) some ls)
