use Rattle.std.proofs.Common.{◌≡◌, ℕ, ◌+◌, ◌-◌, ◌*◌, ◌^◌, ◌≤◌, ◌<◌, ◌↔◌, length, List, [], ◌∷◌, take, drop, arith, ap, sym, ◌∙◌, refl, suc, zero, Bool, true, false, not, ◌&&◌, cond, subst, ◌⊎◌, inl, inr, ltb}
use Rattle.std.specs.Prelude.{ℤ, pos, ◌-ℤ◌, ◌<ℤ◌}
use Rattle.std.proofs.Math.Nat.{pow-succ'}
use Rattle.std.proofs.lemmas.Bool.{false≢true, lt-ltb, le-ltb}
use Rattle.std.proofs.lemmas.Int.{ints}
use Rattle.std.proofs.lemmas.List.{length-take-le, length-drop, take-append-drop}
use Rattle.prop.specs.declared.Lit.{Lit}
use Rattle.prop.specs.Logic.{positive_of, lit_value}
use Rattle.bit_gates.specs.Net.{xor, majority, Meets, bit, number}
use Rattle.bit_gates.specs.Orders.{below, ordered, topped, less_of, alike, equal_of}
use Rattle.bit_gates.specs.Laws.{signed_of, Orders, Equates}
use Rattle.bit_gates.proofs.Nets.{value-negated}
use Rattle.bit_gates.proofs.AddLaws.{number-lt}
use Rattle.bit_gates.proofs.ProductLaws.{number-append}
use Rattle.bit_gates.proofs.Within.{topped-length}

below-true : (v : ℕ → Bool) (n : ℕ) (l : Lit) (xs ys : List Lit) → length xs ≡ length ys → Meets v n (below n l xs ys).defs
    → lit_value v (below n l xs ys).out ≡ true
    → (number v xs < number v ys) ⊎ ((number v xs ≡ number v ys) × (lit_value v l ≡ true))
below-true v n l [] [] e m h = inr (refl, h)
below-true v n l [] (y ∷ ys) e m h = absurd (omega arith)
below-true v n l (x ∷ xs) [] e m h = absurd (omega arith)
below-true v n l (x ∷ xs) (y ∷ ys) e m h =
    by (lit_value v x) (lit_value v y) (lit_value v l) (v n) (number v xs) (number v ys)
    (m.0 ∙ ap (λ (t : Bool). majority t (lit_value v y) (lit_value v l)) (value-negated v x))
    (below-true v (suc n) (positive_of n) xs ys (omega arith) m.1 h)
  where
    by : (x y l w : Bool) (a b : ℕ) → w ≡ majority (not x) y l → (a < b) ⊎ ((a ≡ b) × (w ≡ true))
        → (bit x + 2 * a < bit y + 2 * b) ⊎ ((bit x + 2 * a ≡ bit y + 2 * b) × (l ≡ true))
    by true true l w a b e (inl h) = inl (omega arith)
    by true false l w a b e (inl h) = inl (omega arith)
    by false true l w a b e (inl h) = inl (omega arith)
    by false false l w a b e (inl h) = inl (omega arith)
    by true true true w a b e (inr h) = inr (omega (arith, h.0), refl)
    by true true false w a b e (inr h) = absurd (false≢true (sym e ∙ h.1))
    by true false l w a b e (inr h) = absurd (false≢true (sym e ∙ h.1))
    by false true l w a b e (inr h) = inl (omega (arith, h.0))
    by false false true w a b e (inr h) = inr (omega (arith, h.0), refl)
    by false false false w a b e (inr h) = absurd (false≢true (sym e ∙ h.1))

below-false : (v : ℕ → Bool) (n : ℕ) (l : Lit) (xs ys : List Lit) → length xs ≡ length ys → Meets v n (below n l xs ys).defs
    → lit_value v (below n l xs ys).out ≡ false
    → (number v ys < number v xs) ⊎ ((number v xs ≡ number v ys) × (lit_value v l ≡ false))
below-false v n l [] [] e m h = inr (refl, h)
below-false v n l [] (y ∷ ys) e m h = absurd (omega arith)
below-false v n l (x ∷ xs) [] e m h = absurd (omega arith)
below-false v n l (x ∷ xs) (y ∷ ys) e m h =
    by (lit_value v x) (lit_value v y) (lit_value v l) (v n) (number v xs) (number v ys)
    (m.0 ∙ ap (λ (t : Bool). majority t (lit_value v y) (lit_value v l)) (value-negated v x))
    (below-false v (suc n) (positive_of n) xs ys (omega arith) m.1 h)
  where
    by : (x y l w : Bool) (a b : ℕ) → w ≡ majority (not x) y l → (b < a) ⊎ ((a ≡ b) × (w ≡ false))
        → (bit y + 2 * b < bit x + 2 * a) ⊎ ((bit x + 2 * a ≡ bit y + 2 * b) × (l ≡ false))
    by true true l w a b e (inl h) = inl (omega arith)
    by true false l w a b e (inl h) = inl (omega arith)
    by false true l w a b e (inl h) = inl (omega arith)
    by false false l w a b e (inl h) = inl (omega arith)
    by true true true w a b e (inr h) = absurd (false≢true (sym h.1 ∙ e))
    by true true false w a b e (inr h) = inr (omega (arith, h.0), refl)
    by true false l w a b e (inr h) = inl (omega (arith, h.0))
    by false true l w a b e (inr h) = absurd (false≢true (sym h.1 ∙ e))
    by false false true w a b e (inr h) = absurd (false≢true (sym h.1 ∙ e))
    by false false false w a b e (inr h) = inr (omega (arith, h.0), refl)

is-true : (o : Bool) → (o ≡ false → ⊥) → o ≡ true
is-true true h = refl
is-true false h = absurd (h refl)

pub ordered-law : (v : ℕ → Bool) (n : ℕ) (xs ys : List Lit) → 1 ≤ length xs → length xs ≡ length ys → Meets v n (ordered n xs ys).defs
    → (lit_value v (ordered n xs ys).out ≡ true) ↔ (number v xs < number v ys)
ordered-law v n [] ys l e m = absurd (omega arith)
ordered-law v n (x ∷ xs) [] l e m = absurd (omega arith)
ordered-law v n (x ∷ xs) (y ∷ ys) l e m =
    let r = below (suc n) (positive_of n) xs ys in
    let w : v n ≡ (not (lit_value v x) && lit_value v y) = m.0 ∙ ap (λ (t : Bool). t && lit_value v y) (value-negated v x) in (
      λ h. up (lit_value v x) (lit_value v y) (v n) (number v xs) (number v ys) w (below-true v (suc n) (positive_of n) xs ys (omega arith) m.1 h),
      λ h. is-true (lit_value v r.out) (λ f. down (lit_value v x) (lit_value v y) (v n) (number v xs) (number v ys) w
          (below-false v (suc n) (positive_of n) xs ys (omega arith) m.1 f) h),
    )
  where
    up : (x y w : Bool) (a b : ℕ) → w ≡ (not x && y) → (a < b) ⊎ ((a ≡ b) × (w ≡ true)) → bit x + 2 * a < bit y + 2 * b
    up true true w a b e (inl h) = omega arith
    up true false w a b e (inl h) = omega arith
    up false true w a b e (inl h) = omega arith
    up false false w a b e (inl h) = omega arith
    up true y w a b e (inr h) = absurd (false≢true (sym e ∙ h.1))
    up false true w a b e (inr h) = omega (arith, h.0)
    up false false w a b e (inr h) = absurd (false≢true (sym e ∙ h.1))

    down : (x y w : Bool) (a b : ℕ) → w ≡ (not x && y) → (b < a) ⊎ ((a ≡ b) × (w ≡ false)) → bit x + 2 * a < bit y + 2 * b → ⊥
    down true true w a b e (inl g) h = omega arith
    down true false w a b e (inl g) h = omega arith
    down false true w a b e (inl g) h = omega arith
    down false false w a b e (inl g) h = omega arith
    down true true w a b e (inr g) h = omega (arith, g.0)
    down true false w a b e (inr g) h = omega (arith, g.0)
    down false true w a b e (inr g) h = false≢true (sym g.1 ∙ e)
    down false false w a b e (inr g) h = omega (arith, g.0)

-- a number below P, and a top bit
signed-split : (P l t : ℕ) → l < P → t < 2 → cond (ltb (2 * (l + P * t)) (2 * P)) (pos (l + P * t)) (pos (l + P * t) -ℤ pos (2 * P)) ≡ pos l -ℤ pos (P * t)
signed-split P l zero h g =
    let e : ltb (2 * (l + P * 0)) (2 * P) ≡ true = lt-ltb (2 * (l + P * 0)) (2 * P) (omega arith) in
    ap (λ (t : Bool). cond t (pos (l + P * 0)) (pos (l + P * 0) -ℤ pos (2 * P))) e ∙ omega (arith, ints)
signed-split P l (suc zero) h g =
    let e : ltb (2 * (l + P * 1)) (2 * P) ≡ false = le-ltb (2 * (l + P * 1)) (2 * P) (omega arith) in
    ap (λ (t : Bool). cond t (pos (l + P * 1)) (pos (l + P * 1) -ℤ pos (2 * P))) e ∙ omega (arith, ints)
signed-split P l (suc (suc t)) h g = absurd (omega arith)

swap : (l p m q : ℕ) → (l + q < m + p) ↔ ((pos l -ℤ pos p) <ℤ (pos m -ℤ pos q))
swap l p m q = (λ h. omega (arith, ints), λ h. omega (arith, ints))

iff-both : (A B C : Type 0) → A ↔ B → B ↔ C → A ↔ C
iff-both A B C f g = (λ a. g.0 (f.0 a), λ c. f.1 (g.1 c))

pub less_of-law : (v : ℕ → Bool) (n : ℕ) (s : Bool) (xs ys : List Lit) → 1 ≤ length xs → length xs ≡ length ys → Meets v n (less_of n s xs ys).defs
    → Orders s xs ys (less_of n s xs ys).out v
less_of-law v n false xs ys h e m = ordered-law v n xs ys h e m
less_of-law v n true xs ys h e m =
    let k = length xs - 1 in
    let j = length ys - 1 in
    let kj : j ≡ k = omega arith in
    let lx : length (take k xs) ≡ k = length-take-le k xs (omega arith) in
    let ly : length (take j ys) ≡ k = length-take-le j ys (omega arith) ∙ kj in
    let dx : length (drop k xs) ≡ 1 = length-drop k xs ∙ omega arith in
    let dy : length (drop j ys) ≡ 1 = length-drop j ys ∙ omega arith in
    let P = 2 ^ k in
    let a = number v (take k xs) in
    let b = number v (take j ys) in
    let t = number v (drop k xs) in
    let u = number v (drop j ys) in
    let al : a < P = subst (λ (z : ℕ). a < 2 ^ z) lx (number-lt v (take k xs)) in
    let bl : b < P = subst (λ (z : ℕ). b < 2 ^ z) ly (number-lt v (take j ys)) in
    let tl : t < 2 = subst (λ (z : ℕ). t < 2 ^ z) dx (number-lt v (drop k xs)) in
    let ul : u < 2 = subst (λ (z : ℕ). u < 2 ^ z) dy (number-lt v (drop j ys)) in
    let ex : number v xs ≡ a + P * t
    = ap (number v) (sym (take-append-drop k xs)) ∙ (number-append v (take k xs) (drop k xs) ∙ ap (λ (z : ℕ). a + 2 ^ z * t) lx) in
    let ey : number v ys ≡ b + P * u
    = ap (number v) (sym (take-append-drop j ys)) ∙ (number-append v (take j ys) (drop j ys) ∙ ap (λ (z : ℕ). b + 2 ^ z * u) ly) in
    let sx : number v (topped xs ys) ≡ a + P * u = number-append v (take k xs) (drop j ys) ∙ ap (λ (z : ℕ). a + 2 ^ z * u) lx in
    let sy : number v (topped ys xs) ≡ b + P * t = number-append v (take j ys) (drop k xs) ∙ ap (λ (z : ℕ). b + 2 ^ z * t) ly in
    let wx : 2 ^ length xs ≡ 2 * P = ap (λ (z : ℕ). 2 ^ z) (back (length xs) h) ∙ pow-succ' 2 k in
    let wy : 2 ^ length ys ≡ 2 * P = ap (λ (z : ℕ). 2 ^ z) (sym e) ∙ wx in
    let gx : signed_of (length xs) (number v xs) ≡ pos a -ℤ pos (P * t) = turn (length xs) (number v xs) (a + P * t) (2 * P) ex wx ∙ signed-split P a t al tl in
    let gy : signed_of (length ys) (number v ys) ≡ pos b -ℤ pos (P * u) = turn (length ys) (number v ys) (b + P * u) (2 * P) ey wy ∙ signed-split P b u bl ul in
    let o = ordered-law v n (topped xs ys) (topped ys xs) (omega (arith, topped-length xs ys h e))
    (topped-length xs ys h e ∙ (e ∙ sym (topped-length ys xs (omega arith) (sym e)))) m in
    let O = lit_value v (ordered n (topped xs ys) (topped ys xs)).out ≡ true in
    let o2 : O ↔ (a + P * u < b + P * t) = subst (λ (z : ℕ). O ↔ (a + P * u < z)) sy (subst (λ (z : ℕ). O ↔ (z < number v (topped ys xs))) sx o) in
    let o3 : O ↔ ((pos a -ℤ pos (P * t)) <ℤ (pos b -ℤ pos (P * u)))
    = iff-both O (a + P * u < b + P * t) ((pos a -ℤ pos (P * t)) <ℤ (pos b -ℤ pos (P * u))) o2 (swap a (P * t) b (P * u)) in
    subst (λ (z : ℤ). O ↔ (signed_of (length xs) (number v xs) <ℤ z)) (sym gy)
    (subst (λ (z : ℤ). O ↔ (z <ℤ (pos b -ℤ pos (P * u)))) (sym gx) o3)
  where
    back : (w : ℕ) → 1 ≤ w → w ≡ suc (w - 1)
    back w h = omega arith

    turn : (w n x q : ℕ) → n ≡ x → 2 ^ w ≡ q → signed_of w n ≡ cond (ltb (2 * x) q) (pos x) (pos x -ℤ pos q)
    turn w n x q e f =
        ap (λ (t : ℕ). cond (ltb (2 * t) (2 ^ w)) (pos t) (pos t -ℤ pos (2 ^ w))) e
        ∙ ap (λ (t : ℕ). cond (ltb (2 * x) t) (pos x) (pos x -ℤ pos t)) f

alike-law : (v : ℕ → Bool) (n : ℕ) (l : Lit) (xs ys : List Lit) → length xs ≡ length ys → Meets v n (alike n l xs ys).defs
    → (lit_value v (alike n l xs ys).out ≡ true → (lit_value v l ≡ true) × (number v xs ≡ number v ys))
    × (lit_value v l ≡ true → number v xs ≡ number v ys → lit_value v (alike n l xs ys).out ≡ true)
alike-law v n l [] [] e m = (λ h. (h, refl), λ h g. h)
alike-law v n l [] (y ∷ ys) e m = absurd (omega arith)
alike-law v n l (x ∷ xs) [] e m = absurd (omega arith)
alike-law v n l (x ∷ xs) (y ∷ ys) e m =
    let i = alike-law v (suc n) (positive_of n) xs ys (omega arith) m.1 in (
      λ h. up (v n) (lit_value v l) (lit_value v x) (lit_value v y) (number v xs) (number v ys) m.0 (i.0 h),
      λ h g. let d = down (v n) (lit_value v l) (lit_value v x) (lit_value v y) (number v xs) (number v ys) m.0 h g in i.1 d.0 d.1,
    )
  where
    up : (w l x y : Bool) (a b : ℕ) → w ≡ (l && not (xor x y)) → (w ≡ true) × (a ≡ b) → (l ≡ true) × (bit x + 2 * a ≡ bit y + 2 * b)
    up w true true true a b e h = (refl, omega (arith, h.1))
    up w true true false a b e h = absurd (false≢true (sym e ∙ h.0))
    up w true false true a b e h = absurd (false≢true (sym e ∙ h.0))
    up w true false false a b e h = (refl, omega (arith, h.1))
    up w false x y a b e h = absurd (false≢true (sym e ∙ h.0))

    down : (w l x y : Bool) (a b : ℕ) → w ≡ (l && not (xor x y)) → l ≡ true → bit x + 2 * a ≡ bit y + 2 * b → (w ≡ true) × (a ≡ b)
    down w true true true a b e h g = (e, omega arith)
    down w true true false a b e h g = absurd (omega arith)
    down w true false true a b e h g = absurd (omega arith)
    down w true false false a b e h g = (e, omega arith)
    down w false x y a b e h g = absurd (false≢true h)

pub equal_of-law : (v : ℕ → Bool) (n : ℕ) (xs ys : List Lit) → 1 ≤ length xs → length xs ≡ length ys → Meets v n (equal_of n xs ys).defs
    → Equates xs ys (equal_of n xs ys).out v
equal_of-law v n [] ys l e m = absurd (omega arith)
equal_of-law v n (x ∷ xs) [] l e m = absurd (omega arith)
equal_of-law v n (x ∷ xs) (y ∷ ys) l e m =
    let i = alike-law v (suc n) (positive_of n) xs ys (omega arith) m.1 in
    let w : v n ≡ xor (lit_value v x) (not (lit_value v y)) = m.0 ∙ ap (λ (t : Bool). xor (lit_value v x) t) (value-negated v y) in (
      λ h. up (v n) (lit_value v x) (lit_value v y) (number v xs) (number v ys) w (i.0 h),
      λ g. let d = down (v n) (lit_value v x) (lit_value v y) (number v xs) (number v ys) w g in i.1 d.0 d.1,
    )
  where
    up : (w x y : Bool) (a b : ℕ) → w ≡ xor x (not y) → (w ≡ true) × (a ≡ b) → bit x + 2 * a ≡ bit y + 2 * b
    up w true true a b e h = omega (arith, h.1)
    up w true false a b e h = absurd (false≢true (sym e ∙ h.0))
    up w false true a b e h = absurd (false≢true (sym e ∙ h.0))
    up w false false a b e h = omega (arith, h.1)

    down : (w x y : Bool) (a b : ℕ) → w ≡ xor x (not y) → bit x + 2 * a ≡ bit y + 2 * b → (w ≡ true) × (a ≡ b)
    down w true true a b e g = (e, omega arith)
    down w true false a b e g = absurd (omega arith)
    down w false true a b e g = absurd (omega arith)
    down w false false a b e g = (e, omega arith)
