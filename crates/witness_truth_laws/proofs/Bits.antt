-- A bit of a number in two's complement is the lowest one of the number shifted right.
use Rattle.std.proofs.Common.{◌≡◌, ◌∙◌, ap, sym, subst, ℕ, ◌*◌, ◌/◌, ◌%◌, ◌<◌, ◌≤◌, ◌^◌, ◌-◌, ◌+◌, ℤ, pos, negsuc, arith}
use Rattle.std.specs.Int.{int_div_euclid}
use Rattle.std.proofs.Math.Nat.{mod-lt}
use Rattle.std.proofs.lemmas.Nat.{pow_pos, pow-add, mod-pow-add, mod-mul-add, div-mul-add}
use Rattle.lv_base.specs.Integers.{residue}
use Rattle.bv_term.specs.Numbers.{bit_of}
use Rattle.word_laws.proofs.Residues.{low, halves}

-- the lowest bit of some low bits is that of the number
even-mod : (n w : ℕ) → 1 ≤ w → n % 2 ^ w % 2 ≡ n % 2
even-mod n w some =
    let e : w - 1 + 1 ≡ w = omega arith in
    ap (λ (k : ℕ). n % 2 ^ k % 2) (sym e) ∙ ap (λ (m : ℕ). m % 2) (mod-pow-add n (w - 1) 1) ∙ mod-mul-add (n / 2 % 2 ^ (w - 1)) 2 (n % 2) (omega arith)

pub parity : (w : ℕ) (v : ℤ) → 1 ≤ w → w ≤ 64 → residue w v % 2 ≡ residue 64 v % 2
parity w v some most = ap (λ (n : ℕ). n % 2) (sym (low w v most)) ∙ even-mod (residue 64 v) w some

flip : (K W q d r : ℕ) → K ≡ q + d + 1 → r < W → K * W - 1 - (q * W + r) ≡ d * W + (W - 1 - r)
flip K W q d r e lt = subst (λ (k : ℕ). k * W - 1 - (q * W + r) ≡ d * W + (W - 1 - r)) (sym e) (omega arith)

odd : (h a : ℕ) → a < h + h → (h + h - 1 - a) % 2 ≡ 1 - a % 2
odd h a lt = omega (arith, lt)

-- each bit of the complement is turned over
turned : (w a : ℕ) → 1 ≤ w → a < 2 ^ w → (2 ^ w - 1 - a) % 2 ≡ 1 - a % 2
turned w a some lt =
    let e : 2 ^ w ≡ 2 ^ (w - 1) + 2 ^ (w - 1) = halves w some in
    ap (λ (p : ℕ). (p - 1 - a) % 2) e ∙ odd (2 ^ (w - 1)) a (subst (λ (p : ℕ). a < p) e lt)

split : (w k n : ℕ) → k < w → n % 2 ^ w ≡ (n / 2 ^ k % 2 ^ (w - k)) * 2 ^ k + n % 2 ^ k
split w k n lt =
    let e : w - k + k ≡ w = omega arith in
    ap (λ (m : ℕ). n % 2 ^ m) (sym e) ∙ mod-pow-add n (w - k) k

plus-bit : (w k n : ℕ) → k < w → bit_of k (n % 2 ^ w) ≡ n / 2 ^ k % 2
plus-bit w k n lt =
    ap (bit_of k) (split w k n lt)
    ∙ ap (λ (m : ℕ). m % 2) (div-mul-add (n / 2 ^ k % 2 ^ (w - k)) (2 ^ k) (n % 2 ^ k) (mod-lt n (pow_pos k)))
    ∙ even-mod (n / 2 ^ k) (w - k) (omega arith)

minus-bit : (w k n : ℕ) → k < w → bit_of k (2 ^ w - 1 - n % 2 ^ w) ≡ 1 - n / 2 ^ k % 2
minus-bit w k n lt =
    let K : ℕ = 2 ^ (w - k) in
    let W : ℕ = 2 ^ k in
    let q : ℕ = n / W % K in
    let r : ℕ = n % W in
    let lq : q < K = mod-lt (n / W) (pow_pos (w - k)) in
    let lr : r < W = mod-lt n (pow_pos k) in
    let d : ℕ = K - 1 - q in
    let e : K ≡ q + d + 1 = omega (arith, lq) in
    let s : w - k + k ≡ w = omega arith in
    let whole : 2 ^ w ≡ K * W = ap (λ (m : ℕ). 2 ^ m) (sym s) ∙ pow-add 2 (w - k) k in
    let first : 2 ^ w - 1 - n % 2 ^ w ≡ d * W + (W - 1 - r) =
    ap (λ (m : ℕ). m - 1 - n % 2 ^ w) whole ∙ ap (λ (m : ℕ). K * W - 1 - m) (split w k n lt) ∙ flip K W q d r e lr in
    ap (bit_of k) first
    ∙ ap (λ (m : ℕ). m % 2) (div-mul-add d W (W - 1 - r) (omega (arith, lr)))
    ∙ turned (w - k) q (omega arith) lq
    ∙ ap (λ (m : ℕ). 1 - m) (even-mod (n / W) (w - k) (omega arith))

pub shifted-bit : (w k : ℕ) (x : ℤ) → k < w → residue w (int_div_euclid x (pos (2 ^ k))) % 2 ≡ bit_of k (residue w x)
shifted-bit w k (pos n) lt = even-mod (n / 2 ^ k) w (omega arith) ∙ sym (plus-bit w k n lt)
shifted-bit w k (negsuc n) lt =
    turned w (n / 2 ^ k % 2 ^ w) (omega arith) (mod-lt (n / 2 ^ k) (pow_pos w))
    ∙ ap (λ (m : ℕ). 1 - m) (even-mod (n / 2 ^ k) w (omega arith))
    ∙ sym (minus-bit w k n lt)
