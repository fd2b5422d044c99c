-- Comparisons of numbers in two's complement.
use Rattle.std.proofs.Common.{◌≡◌, ℕ, ◌+◌, ◌-◌, ◌<◌, ◌≤◌, ◌^◌, ◌==◌, ◌&&◌, ◌⊎◌, inl, inr, refl, sym, ap, ◌∙◌, arith, Bool, true, false, not, nat_lt, nat_le, lt-ltb, le-ltb, le-leb, eq-eqb, ℤ, pos, negsuc}
use Rattle.std.specs.Prelude.{int_lt, int_le}
use Rattle.std.proofs.lemmas.Bool.{cases_lt, cases_order, lt-leb, ne_eqb}
use Rattle.lv_base.specs.Integers.{signed_of}
use Rattle.bv_term.specs.Numbers.{raised}
use Rattle.word_laws.proofs.Residues.{halves, wrap_low, wrap_high}
use Rattle.word_laws.proofs.Sums.{Signed, plus, minus, signed}

-- one order has one test
pub lt_same : (a b c d : ℕ) → (a < b → c < d) → (c < d → a < b) → nat_lt a b ≡ nat_lt c d
lt_same a b c d f g = by (cases_lt a b) (cases_lt c d)
  where
    by : (a < b) ⊎ (b ≤ a) → (c < d) ⊎ (d ≤ c) → nat_lt a b ≡ nat_lt c d
    by (inl h) (inl k) = lt-ltb a b h ∙ sym (lt-ltb c d k)
    by (inl h) (inr k) = absurd (omega (arith, f h, k))
    by (inr h) (inl k) = absurd (omega (arith, g k, h))
    by (inr h) (inr k) = le-ltb a b h ∙ sym (le-ltb c d k)

pub eq_test : (a b : ℕ) → (nat_le a b && nat_le b a) ≡ (a == b)
eq_test a b = by (cases_order a b)
  where
    both : (p q : Bool) → nat_le a b ≡ p → nat_le b a ≡ q → (nat_le a b && nat_le b a) ≡ (p && q)
    both p q e f = ap (λ z. z && nat_le b a) e ∙ ap (λ z. p && z) f

    by : (a ≡ b) ⊎ ((a < b) ⊎ (b < a)) → (nat_le a b && nat_le b a) ≡ (a == b)
    by (inl e) = both true true (le-leb a b (omega (arith, e))) (le-leb b a (omega (arith, e))) ∙ sym (eq-eqb a b e)
    by (inr (inl h)) = both true false (le-leb a b (omega (arith, h))) (lt-leb b a h) ∙ sym (ne_eqb a b (λ e. omega (arith, e, h)))
    by (inr (inr h)) = both false true (lt-leb a b h) (le-leb b a (omega (arith, h))) ∙ sym (ne_eqb a b (λ e. omega (arith, e, h)))

pub le_test : (a b : ℕ) → nat_le a b ≡ not (nat_lt b a)
le_test a b = by (cases_lt b a)
  where
    by : (b < a) ⊎ (a ≤ b) → nat_le a b ≡ not (nat_lt b a)
    by (inl h) = lt-leb a b h ∙ sym (ap not (lt-ltb b a h))
    by (inr h) = le-leb a b h ∙ sym (ap not (le-ltb b a h))

pub le_is_not_lt : (a b : ℤ) → int_le a b ≡ not (int_lt b a)
le_is_not_lt (pos a) (pos b) = le_test a b
le_is_not_lt (pos a) (negsuc b) = refl
le_is_not_lt (negsuc a) (pos b) = refl
le_is_not_lt (negsuc a) (negsuc b) = le_test b a

raised_low : (w x : ℕ) → 1 ≤ w → x < 2 ^ (w - 1) → raised w x ≡ x + 2 ^ (w - 1)
raised_low w x some lt = wrap_low (x + 2 ^ (w - 1)) (2 ^ w) (omega (arith, lt, halves w some))

raised_high : (w x : ℕ) → 1 ≤ w → 2 ^ (w - 1) ≤ x → x < 2 ^ w → raised w x + 2 ^ (w - 1) ≡ x
raised_high w x some le lt =
    let e : raised w x ≡ x + 2 ^ (w - 1) - 2 ^ w = wrap_high (x + 2 ^ (w - 1)) (2 ^ w) (omega (arith, le, halves w some)) (omega (arith, lt, halves w some)) in
    omega (arith, e, le, halves w some)

-- the order of signed numbers is that of the raised ones
pub less_signed : (w x y : ℕ) → 1 ≤ w → x < 2 ^ w → y < 2 ^ w → int_lt (signed_of w x) (signed_of w y) ≡ nat_lt (raised w x) (raised w y)
less_signed w x y some lx ly = go (signed w x some lx) (signed w y some ly)
  where
    at : (a b c d : ℤ) → a ≡ c → b ≡ d → int_lt a b ≡ int_lt c d
    at a b c d e f = ap (λ z. int_lt z b) e ∙ ap (int_lt c) f

    go : Signed w x → Signed w y → int_lt (signed_of w x) (signed_of w y) ≡ nat_lt (raised w x) (raised w y)
    go (plus hx vx bx) (plus hy vy by) = at _ _ _ _ vx vy ∙ lt_same x y (raised w x) (raised w y)
        (λ h. omega (arith, h, raised_low w x some hx, raised_low w y some hy)) (λ h. omega (arith, h, raised_low w x some hx, raised_low w y some hy))
    go (plus hx vx bx) (minus hy vy by) = at _ _ _ _ vx vy ∙ sym (le-ltb (raised w x) (raised w y) (omega (arith, raised_low w x some hx, raised_high w y some hy ly, ly, halves w some)))
    go (minus hx vx bx) (plus hy vy by) = at _ _ _ _ vx vy ∙ sym (lt-ltb (raised w x) (raised w y) (omega (arith, raised_high w x some hx lx, raised_low w y some hy, lx, halves w some)))
    go (minus hx vx bx) (minus hy vy by) = at _ _ _ _ vx vy ∙ lt_same (2 ^ w - 1 - y) (2 ^ w - 1 - x) (raised w x) (raised w y)
        (λ h. omega (arith, h, raised_high w x some hx lx, raised_high w y some hy ly, lx, ly)) (λ h. omega (arith, h, raised_high w x some hx lx, raised_high w y some hy ly, lx, ly))

-- numbers in two's complement are equal where their bits are
pub equal_signed : (w x y : ℕ) → 1 ≤ w → x < 2 ^ w → y < 2 ^ w → (int_le (signed_of w x) (signed_of w y) && int_le (signed_of w y) (signed_of w x)) ≡ (x == y)
equal_signed w x y some lx ly = go (signed w x some lx) (signed w y some ly)
  where
    at : (a b c d : ℤ) → a ≡ c → b ≡ d → (int_le a b && int_le b a) ≡ (int_le c d && int_le d c)
    at a b c d e f = ap (λ z. int_le z b && int_le b z) e ∙ ap (λ z. int_le c z && int_le z c) f

    same : (a b c d : ℕ) → (a ≡ b → c ≡ d) → (c ≡ d → a ≡ b) → (a == b) ≡ (c == d)
    same a b c d f g = cases (cases_order a b)
      where
        cases : (a ≡ b) ⊎ ((a < b) ⊎ (b < a)) → (a == b) ≡ (c == d)
        cases (inl e) = eq-eqb a b e ∙ sym (eq-eqb c d (f e))
        cases (inr (inl h)) = ne_eqb a b (λ e. omega (arith, e, h)) ∙ sym (ne_eqb c d (λ e. omega (arith, g e, h)))
        cases (inr (inr h)) = ne_eqb a b (λ e. omega (arith, e, h)) ∙ sym (ne_eqb c d (λ e. omega (arith, g e, h)))

    go : Signed w x → Signed w y → (int_le (signed_of w x) (signed_of w y) && int_le (signed_of w y) (signed_of w x)) ≡ (x == y)
    go (plus hx vx bx) (plus hy vy by) = at _ _ _ _ vx vy ∙ eq_test x y
    go (plus hx vx bx) (minus hy vy by) = at _ _ _ _ vx vy ∙ sym (ne_eqb x y (λ e. omega (arith, e, hx, hy)))
    go (minus hx vx bx) (plus hy vy by) = at _ _ _ _ vx vy ∙ sym (ne_eqb x y (λ e. omega (arith, e, hx, hy)))
    go (minus hx vx bx) (minus hy vy by) = at _ _ _ _ vx vy ∙ eq_test (2 ^ w - 1 - y) (2 ^ w - 1 - x) ∙ same (2 ^ w - 1 - y) (2 ^ w - 1 - x) x y (λ e. omega (arith, e, lx, ly)) (λ e. omega (arith, e))
