use Rattle.std.proofs.Common.{◌≡◌, ℕ, ◌+◌, ◌*◌, ◌^◌, ◌%◌, ◌≤◌, ◌<◌, length, List, [], ◌∷◌, ◌++◌, take, drop, arith, ap, sym, ◌∙◌, refl, suc, Bool, true, false, ◌&&◌, subst}
use Rattle.std.proofs.Math.Nat.{pow-succ', add-mul-mod_self_left, mod-eq_of_lt}
use Rattle.std.proofs.lemmas.List.{length-take-le, take-append-drop}
use Rattle.prop.specs.declared.Lit.{Lit}
use Rattle.prop.specs.Logic.{lit_value}
use Rattle.bit_gates.specs.Net.{Meets, bit, number}
use Rattle.bit_gates.specs.Sums.{half_ripple}
use Rattle.bit_gates.specs.Products.{masked, row, product, product_of}
use Rattle.bit_gates.proofs.Nets.{meets-append}
use Rattle.bit_gates.proofs.AddLaws.{double-pow, number-lt, half_ripple-sum, half_ripple-length}

and-bit : (a b : Bool) → bit (a && b) ≡ bit a * bit b
and-bit true true = refl
and-bit true false = refl
and-bit false true = refl
and-bit false false = refl

pub number-append : (v : ℕ → Bool) (xs ys : List Lit) → number v (xs ++ ys) ≡ number v xs + 2 ^ length xs * number v ys
number-append v [] ys = omega arith
number-append v (x ∷ xs) ys =
    let i = number-append v xs ys in
    let p = double-pow (length xs) (number v ys) in
    omega arith

pub masked-number : (v : ℕ → Bool) (n : ℕ) (xs : List Lit) (b : Lit) → Meets v n (masked n xs b).defs
    → number v (masked n xs b).outs ≡ number v xs * bit (lit_value v b)
masked-number v n [] b h = omega arith
masked-number v n (x ∷ xs) b h =
    let i = masked-number v (suc n) xs b h.1 in
    let e : bit (v n) ≡ bit (lit_value v x) * bit (lit_value v b) = ap bit h.0 ∙ and-bit (lit_value v x) (lit_value v b) in
    omega arith

pub masked-length : (n : ℕ) (xs : List Lit) (b : Lit) → length (masked n xs b).outs ≡ length xs
masked-length n [] b = refl
masked-length n (x ∷ xs) b = ap suc (masked-length (suc n) xs b)

pub row-number : (v : ℕ → Bool) (n : ℕ) (x : Lit) (xs : List Lit) (b : Lit) (low : List Lit) → length xs ≡ length low
    → Meets v n (row n x xs b low).defs
    → (q : ℕ) × (number v (row n x xs b low).outs + 2 ^ suc (length low) * q ≡ number v (x ∷ xs) * bit (lit_value v b) + 2 * number v low)
row-number v n x xs b low e h =
    let m = masked (suc n) xs b in
    let k = suc n + length m.defs in
    let s = half_ripple k m.outs low in
    let p = meets-append v (suc n) m.defs s.defs h.1 in
    let i = masked-number v (suc n) xs b p.0 in
    let l : length m.outs ≡ length low = masked-length (suc n) xs b ∙ e in
    let j = half_ripple-sum v k m.outs low l p.1 in
    let f : number v s.outs + 2 ^ length low * j.0 ≡ number v m.outs + number v low
    = subst (λ (t : ℕ). number v s.outs + 2 ^ t * j.0 ≡ number v m.outs + number v low) l j.1 in
    let g : bit (v n) ≡ bit (lit_value v x) * bit (lit_value v b) = ap bit h.0 ∙ and-bit (lit_value v x) (lit_value v b) in
    let d = double-pow (length low) j.0 in
    (j.0, omega arith)

pub row-length : (n : ℕ) (x : Lit) (xs : List Lit) (b : Lit) (low : List Lit) → length xs ≡ length low
    → length (row n x xs b low).outs ≡ suc (length low)
row-length n x xs b low e =
    let m = masked (suc n) xs b in
    let l = masked-length (suc n) xs b in
    ap suc (half_ripple-length (suc n + length m.defs) m.outs low (l ∙ e) ∙ (l ∙ e))

pub product-length : (n : ℕ) (x : Lit) (xs ys : List Lit) → length ys ≤ suc (length xs) → length (product n x xs ys).outs ≡ length ys
product-length n x xs [] e = refl
product-length n x xs (y ∷ ys) e =
    let m = product n x xs ys in
    let i : length m.outs ≡ length ys = product-length n x xs ys (omega arith) in
    row-length (n + length m.defs) x (take (length m.outs) xs) y m.outs (length-take-le (length m.outs) xs (omega arith)) ∙ ap suc i

spread : (s p p2 q1 q2 r b t m x y : ℕ) → p ≡ 2 * p2 → x ≡ t + p * r → m + p2 * q1 ≡ x * y → s + p * q2 ≡ t * b + 2 * m
    → s + p * (q2 + r * b + q1) ≡ x * (b + 2 * y)
spread s p p2 q1 q2 r b t m x y ep ex e1 e2 =
    let f = ap (λ (z : ℕ). z * b) ex in
    let g = ap (λ (z : ℕ). z * q1) ep in
    omega arith

pub product-spread : (v : ℕ → Bool) (n : ℕ) (x : Lit) (xs ys : List Lit) → length ys ≤ suc (length xs)
    → Meets v n (product n x xs ys).defs
    → (q : ℕ) × (number v (product n x xs ys).outs + 2 ^ length ys * q ≡ number v (x ∷ xs) * number v ys)
product-spread v n x xs [] e h = (0, omega arith)
product-spread v n x xs (y ∷ ys) e h =
    let m = product n x xs ys in
    let k = n + length m.defs in
    let l = length ys in
    let ts = take (length m.outs) xs in
    let s = row k x ts y m.outs in
    let p = meets-append v n m.defs s.defs h in
    let i = product-spread v n x xs ys (omega arith) p.0 in
    let lm : length m.outs ≡ l = product-length n x xs ys (omega arith) in
    let lt : length ts ≡ length m.outs = length-take-le (length m.outs) xs (omega arith) in
    let j = row-number v k x ts y m.outs lt p.1 in
    let jj : number v s.outs + 2 ^ suc l * j.0 ≡ number v (x ∷ ts) * bit (lit_value v y) + 2 * number v m.outs
    = subst (λ (t : ℕ). number v s.outs + 2 ^ suc t * j.0 ≡ number v (x ∷ ts) * bit (lit_value v y) + 2 * number v m.outs) lm j.1 in
    let r = number v (drop (length m.outs) xs) in
    let x1 : number v (x ∷ (ts ++ drop (length m.outs) xs)) ≡ number v (x ∷ ts) + 2 ^ suc (length ts) * r
    = number-append v (x ∷ ts) (drop (length m.outs) xs) in
    let x2 : number v (x ∷ (ts ++ drop (length m.outs) xs)) ≡ number v (x ∷ xs) = ap (λ t. number v (x ∷ t)) (take-append-drop (length m.outs) xs) in
    let x3 : number v (x ∷ xs) ≡ number v (x ∷ ts) + 2 ^ suc l * r
    = sym x2 ∙ (x1 ∙ ap (λ (t : ℕ). number v (x ∷ ts) + 2 ^ suc t * r) (lt ∙ lm)) in (
      j.0 + r * bit (lit_value v y) + i.0,
      spread (number v s.outs) (2 ^ suc l) (2 ^ l) i.0 j.0 r (bit (lit_value v y))
          (number v (x ∷ ts)) (number v m.outs) (number v (x ∷ xs)) (number v ys) (pow-succ' 2 l) x3 i.1 jj,
    )

-- the product's literals spell the product modulo a power of two
pub product-number : (v : ℕ → Bool) (n : ℕ) (x : Lit) (xs ys : List Lit) → length ys ≤ suc (length xs)
    → Meets v n (product n x xs ys).defs
    → number v (product n x xs ys).outs ≡ (number v (x ∷ xs) * number v ys) % 2 ^ length ys
product-number v n x xs ys e h =
    let s = product-spread v n x xs ys e h in
    let o = (product n x xs ys).outs in
    let lt : number v o < 2 ^ length ys = subst (λ (t : ℕ). number v o < 2 ^ t) (product-length n x xs ys e) (number-lt v o) in
    sym (ap (λ (t : ℕ). t % 2 ^ length ys) (sym s.1) ∙ (add-mul-mod_self_left (number v o) (2 ^ length ys) s.0 ∙ mod-eq_of_lt lt))

pub product_of-number : (v : ℕ → Bool) (n : ℕ) (xs ys : List Lit) → 1 ≤ length xs → length xs ≡ length ys
    → Meets v n (product_of n xs ys).defs
    → number v (product_of n xs ys).outs ≡ (number v xs * number v ys) % 2 ^ length ys
product_of-number v n [] ys l e h = absurd (omega arith)
product_of-number v n (x ∷ xs) ys l e h = product-number v n x xs ys (omega arith) h
