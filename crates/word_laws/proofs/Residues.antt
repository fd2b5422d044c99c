-- Residues modulo powers of two, and numbers in two's complement.
use Rattle.std.proofs.Common.{◌≡◌, ℕ, ◌+◌, ◌-◌, ◌*◌, ◌/◌, ◌<◌, ◌≤◌, ◌^◌, ◌%◌, ◌⊎◌, inl, inr, sym, ap, ◌∙◌, subst, arith, pow_mono, Bool, if◌then◌else◌, lt-ltb, le-ltb, le-leb, ℤ, pos, negsuc}
use Rattle.std.proofs.Math.Nat.{mod-lt, mod-eq_of_lt, add-mod_right, div-eq_of_lt, div-eq_of_lt-le}
use Rattle.std.proofs.lemmas.Bool.{cases_lt, lt-leb}
use Rattle.std.proofs.lemmas.Nat.{pow_pos, pow-add, mod-pow-add, mod-mul-add}
use Rattle.lv_base.specs.Integers.{residue, signed_of}
use Rattle.bv_term.specs.Numbers.{sign_extended, bit_of}

pub residue_below : (w : ℕ) (value : ℤ) → residue w value < 2 ^ w
residue_below w (pos n) = mod-lt n (pow_pos w)
residue_below w (negsuc n) = omega (arith, pow_pos w)

-- a power of two is twice the one before
pub halves : (w : ℕ) → 1 ≤ w → 2 ^ w ≡ 2 ^ (w - 1) + 2 ^ (w - 1)
halves w le =
    let e : w - 1 + 1 ≡ w = omega arith in
    let p : 2 ^ (w - 1 + 1) ≡ 2 ^ (w - 1) * 2 ^ 1 = pow-add 2 (w - 1) 1 in
    ap (λ (n : ℕ). 2 ^ n) (sym e) ∙ p ∙ omega arith

-- ---- Low bits of a residue

split : (w n : ℕ) → w ≤ 64 → n % 2 ^ 64 ≡ (n / 2 ^ w % 2 ^ (64 - w)) * 2 ^ w + n % 2 ^ w
split w n le =
    let e : 64 - w + w ≡ 64 = omega arith in
    ap (λ (k : ℕ). n % 2 ^ k) (sym e) ∙ mod-pow-add n (64 - w) w

whole : (w : ℕ) → w ≤ 64 → 2 ^ 64 ≡ 2 ^ (64 - w) * 2 ^ w
whole w le =
    let e : 64 - w + w ≡ 64 = omega arith in
    ap (λ (k : ℕ). 2 ^ k) (sym e) ∙ pow-add 2 (64 - w) w

flip : (K W q d r : ℕ) → K ≡ q + d + 1 → r < W → K * W - 1 - (q * W + r) ≡ d * W + (W - 1 - r)
flip K W q d r e lt = subst (λ (k : ℕ). k * W - 1 - (q * W + r) ≡ d * W + (W - 1 - r)) (sym e) (omega arith)

-- the low bits of what is left modulo 2^64 are what is left modulo their power
pub low : (w : ℕ) (a : ℤ) → w ≤ 64 → residue 64 a % 2 ^ w ≡ residue w a
low w (pos n) le =
    ap (λ (m : ℕ). m % 2 ^ w) (split w n le) ∙ mod-mul-add (n / 2 ^ w % 2 ^ (64 - w)) (2 ^ w) (n % 2 ^ w) (mod-lt n (pow_pos w))
low w (negsuc n) le =
    let K : ℕ = 2 ^ (64 - w) in
    let W : ℕ = 2 ^ w in
    let q : ℕ = n / 2 ^ w % 2 ^ (64 - w) in
    let r : ℕ = n % 2 ^ w in
    let lq : q < K = mod-lt (n / 2 ^ w) (pow_pos (64 - w)) in
    let lr : r < W = mod-lt n (pow_pos w) in
    let d : ℕ = K - 1 - q in
    let e : K ≡ q + d + 1 = omega (arith, lq) in
    let first : 2 ^ 64 - 1 - n % 2 ^ 64 ≡ K * W - 1 - (q * W + r) = ap (λ (m : ℕ). m - 1 - n % 2 ^ 64) (whole w le) ∙ ap (λ (m : ℕ). K * W - 1 - m) (split w n le) in
    ap (λ (m : ℕ). m % W) (first ∙ flip K W q d r e lr) ∙ mod-mul-add d W (W - 1 - r) (omega (arith, lr))

-- ---- Two's complement

pub signed_low : (w x : ℕ) → x < 2 ^ (w - 1) → signed_of w x ≡ pos x
signed_low w x lt = ap (λ (b : Bool). if b then pos x else negsuc (2 ^ w - 1 - x)) (lt-ltb x (2 ^ (w - 1)) lt)

pub signed_high : (w x : ℕ) → 2 ^ (w - 1) ≤ x → signed_of w x ≡ negsuc (2 ^ w - 1 - x)
signed_high w x le = ap (λ (b : Bool). if b then pos x else negsuc (2 ^ w - 1 - x)) (le-ltb x (2 ^ (w - 1)) le)

pub sign_low : (w v x : ℕ) → x < 2 ^ (w - 1) → sign_extended w v x ≡ x
sign_low w v x lt = ap (λ (b : Bool). if b then x + (2 ^ v - 2 ^ w) else x) (lt-leb (2 ^ (w - 1)) x lt)

pub sign_high : (w v x : ℕ) → 2 ^ (w - 1) ≤ x → sign_extended w v x ≡ x + (2 ^ v - 2 ^ w)
sign_high w v x le = ap (λ (b : Bool). if b then x + (2 ^ v - 2 ^ w) else x) (le-leb (2 ^ (w - 1)) x le)

pub top_low : (w x : ℕ) → x < 2 ^ (w - 1) → bit_of (w - 1) x ≡ 0
top_low w x lt = ap (λ (n : ℕ). n % 2) (div-eq_of_lt lt)

pub top_high : (w x : ℕ) → 1 ≤ w → 2 ^ (w - 1) ≤ x → x < 2 ^ w → bit_of (w - 1) x ≡ 1
top_high w x some le lt =
    let one : x / 2 ^ (w - 1) ≡ 1 = div-eq_of_lt-le (2 ^ (w - 1)) (omega (arith, le)) (omega (arith, lt, halves w some)) in
    ap (λ (n : ℕ). n % 2) one

-- the residue of a number in two's complement is its extension
pub extended : (w x : ℕ) → 1 ≤ w → w ≤ 64 → x < 2 ^ w → residue 64 (signed_of w x) ≡ sign_extended w 64 x
extended w x some most lt = by_sign (cases x)
  where
    cases : (x : ℕ) → (x < 2 ^ (w - 1)) ⊎ (2 ^ (w - 1) ≤ x)
    cases x = cases_lt x (2 ^ (w - 1))

    by_sign : (x < 2 ^ (w - 1)) ⊎ (2 ^ (w - 1) ≤ x) → residue 64 (signed_of w x) ≡ sign_extended w 64 x
    by_sign (inl h) =
        let m : 2 ^ w ≤ 2 ^ 64 = pow_mono most in
        let s : x % 2 ^ 64 ≡ x = mod-eq_of_lt (omega (arith, lt, m)) in
        ap (residue 64) (signed_low w x h) ∙ s ∙ sym (sign_low w 64 x h)
    by_sign (inr h) =
        let m : 2 ^ w ≤ 2 ^ 64 = pow_mono most in
        let s : (2 ^ w - 1 - x) % 2 ^ 64 ≡ 2 ^ w - 1 - x = mod-eq_of_lt (omega (arith, lt, m)) in
        ap (residue 64) (signed_high w x h) ∙ ap (λ (n : ℕ). 2 ^ 64 - 1 - n) s ∙ omega (arith, lt, m) ∙ sym (sign_high w 64 x h)

-- ---- Sums modulo a power

pub wrap_low : (n m : ℕ) → n < m → n % m ≡ n
wrap_low n m lt = mod-eq_of_lt lt

pub wrap_high : (n m : ℕ) → m ≤ n → n < m + m → n % m ≡ n - m
wrap_high n m le lt =
    let e : n ≡ n - m + m = omega arith in
    ap (λ (k : ℕ). k % m) e ∙ add-mod_right (n - m) m ∙ mod-eq_of_lt (omega (arith, le, lt))
