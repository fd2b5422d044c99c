use Rattle.std.proofs.Common.{◌≡◌, ℕ, ◌+◌, ◌*◌, ◌^◌, ◌≤◌, ◌<◌, length, List, [], ◌∷◌, arith, ap, ◌∙◌, refl, suc, Bool, true, false, ◌&&◌}
use Rattle.std.proofs.Math.Nat.{pow-succ', mul_assoc}
use Rattle.prop.specs.declared.Lit.{Lit}
use Rattle.prop.specs.Logic.{positive_of, lit_value}
use Rattle.bit_gates.specs.Net.{xor, majority, Meets, bit, number}
use Rattle.bit_gates.specs.Sums.{ripple, half_ripple}

pub double-pow : (k x : ℕ) → 2 ^ suc k * x ≡ 2 * (2 ^ k * x)
double-pow k x = ap (λ p. p * x) (pow-succ' 2 k) ∙ mul_assoc 2 (2 ^ k) x

pub number-lt : (v : ℕ → Bool) (ls : List Lit) → number v ls < 2 ^ length ls
number-lt v [] = omega arith
number-lt v (l ∷ ls) =
    let h = number-lt v ls in
    let e : 2 ^ suc (length ls) ≡ 2 * 2 ^ length ls = pow-succ' 2 (length ls) in
    let b : bit (lit_value v l) ≤ 1 = bit-le (lit_value v l) in
    omega arith
  where
    bit-le : (b : Bool) → bit b ≤ 1
    bit-le true = omega arith
    bit-le false = omega arith

full : (a b c : Bool) → bit (xor a (xor b c)) + 2 * bit (majority a b c) ≡ bit a + bit b + bit c
full true true true = refl
full true true false = refl
full true false true = refl
full true false false = refl
full false true true = refl
full false true false = refl
full false false true = refl
full false false false = refl

half : (a b : Bool) → bit (xor a b) + 2 * bit (a && b) ≡ bit a + bit b
half true true = refl
half true false = refl
half false true = refl
half false false = refl

pub ripple-sum : (v : ℕ → Bool) (n : ℕ) (xs ys : List Lit) (c : Lit) → length xs ≡ length ys
    → Meets v n (ripple n xs ys c).defs
    → number v (ripple n xs ys c).outs + 2 ^ length xs * bit (lit_value v (ripple n xs ys c).carry)
    ≡ number v xs + number v ys + bit (lit_value v c)
ripple-sum v n [] [] c e h = omega arith
ripple-sum v n [] (b ∷ ys) c e h = absurd (omega arith)
ripple-sum v n (a ∷ xs) [] c e h = absurd (omega arith)
ripple-sum v n (a ∷ xs) (b ∷ ys) c e h =
    let m = suc (suc n) in
    let r = ripple m xs ys (positive_of (suc n)) in
    let i : number v r.outs + 2 ^ length xs * bit (lit_value v r.carry) ≡ number v xs + number v ys + bit (v (suc n))
    = ripple-sum v m xs ys (positive_of (suc n)) (omega arith) h.1.1 in
    let f : bit (v n) + 2 * bit (v (suc n)) ≡ bit (lit_value v a) + bit (lit_value v b) + bit (lit_value v c)
    = rw (h.0, h.1.0) (full (lit_value v a) (lit_value v b) (lit_value v c)) in
    let p = double-pow (length xs) (bit (lit_value v r.carry)) in
    omega arith

pub ripple-length : (n : ℕ) (xs ys : List Lit) (c : Lit) → length xs ≡ length ys → length (ripple n xs ys c).outs ≡ length xs
ripple-length n [] ys c e = refl
ripple-length n (a ∷ xs) [] c e = absurd (omega arith)
ripple-length n (a ∷ xs) (b ∷ ys) c e = ap suc (ripple-length (suc (suc n)) xs ys (positive_of (suc n)) (omega arith))

pub half_ripple-sum : (v : ℕ → Bool) (n : ℕ) (xs ys : List Lit) → length xs ≡ length ys
    → Meets v n (half_ripple n xs ys).defs
    → (q : ℕ) × (number v (half_ripple n xs ys).outs + 2 ^ length xs * q ≡ number v xs + number v ys)
half_ripple-sum v n [] [] e h = (0, omega arith)
half_ripple-sum v n [] (b ∷ ys) e h = absurd (omega arith)
half_ripple-sum v n (a ∷ xs) [] e h = absurd (omega arith)
half_ripple-sum v n (a ∷ xs) (b ∷ ys) e h =
    let m = suc (suc n) in
    let r = ripple m xs ys (positive_of (suc n)) in
    let i : number v r.outs + 2 ^ length xs * bit (lit_value v r.carry) ≡ number v xs + number v ys + bit (v (suc n))
    = ripple-sum v m xs ys (positive_of (suc n)) (omega arith) h.1.1 in
    let f : bit (v n) + 2 * bit (v (suc n)) ≡ bit (lit_value v a) + bit (lit_value v b)
    = rw (h.0, h.1.0) (half (lit_value v a) (lit_value v b)) in
    let p = double-pow (length xs) (bit (lit_value v r.carry)) in
    (bit (lit_value v r.carry), omega arith)

pub half_ripple-length : (n : ℕ) (xs ys : List Lit) → length xs ≡ length ys → length (half_ripple n xs ys).outs ≡ length xs
half_ripple-length n [] ys e = refl
half_ripple-length n (a ∷ xs) [] e = absurd (omega arith)
half_ripple-length n (a ∷ xs) (b ∷ ys) e = ap suc (ripple-length (suc (suc n)) xs ys (positive_of (suc n)) (omega arith))
