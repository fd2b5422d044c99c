-- The numbers that words spell.
use Rattle.std.proofs.Common.{◌≡◌, ℕ, ◌+◌, ◌-◌, ◌*◌, ◌/◌, ◌%◌, ◌^◌, ◌≤◌, ◌<◌, length, List, [], ◌∷◌, map, take, drop, arith, ap, sym, ◌∙◌, refl, suc, zero, Bool, true, false, not, ◌&&◌, ◌||◌, subst, bit_and, bit_or, bit_xor, if◌then◌else◌, ◌==◌, Option, Some, None}
use Rattle.std.proofs.Math.Nat.{pow-succ', add-mul-mod_self_left, mod-eq_of_lt}
use Rattle.std.proofs.lemmas.List.{length-take-le, take-append-drop}
use Rattle.std.proofs.lemmas.Nat.{and_block, or_block, xor_block, shr-shr}
use Rattle.std.proofs.lemmas.Bool.{eqb-true, false≢true}
use Rattle.prop.specs.declared.Lit.{Lit}
use Rattle.prop.specs.Logic.{negated, positive_of, lit_value, LitsBelow}
use Rattle.bit_gates.specs.Net.{Meets, Agree, bit, number, xor}
use Rattle.bit_gates.specs.Shifts.{top_of}
use Rattle.bit_gates.proofs.Nets.{value-negated, lit-agree}
use Rattle.bit_gates.proofs.AddLaws.{number-lt}
use Rattle.bit_gates.proofs.ProductLaws.{number-append}
use Rattle.bit_words.specs.declared.folds.Relation.{Relation}
use Rattle.bit_words.specs.declared.folds.Relation.TheVariants.{Equal, Opposite, Apart}
use Rattle.bit_words.specs.Folds.{relation_of}
use Rattle.bit_words.specs.Folding.{standing}
use Rattle.bit_words.specs.Words.{copies_of, numeral_of, with_bit, spelled_of, ands, xors}
use Rattle.bit_words.proofs.FoldLaws.{one-value, zero-value, not-one}

pub if-cases : {A : Type 0} (t : Bool) (x y : A) (Q : A → Type 0) → (t ≡ true → Q x) → (t ≡ false → Q y) → Q (if t then x else y)
if-cases true x y Q f g = f refl
if-cases false x y Q f g = g refl

pub none-is-some : {A : Type 0} (x : A) → None ≡ Some x → ⊥
none-is-some {A} x e = false≢true (ap (λ (o : Option A). there o) e)
  where
    there : Option A → Bool
    there None = false
    there (Some y) = true

pub some-same : (j k : ℕ) → Some j ≡ Some k → j ≡ k
some-same j k e = ap from e
  where
    from : Option ℕ → ℕ
    from None = j
    from (Some i) = i

pub number-agree : (n : ℕ) (v w : ℕ → Bool) (ls : List Lit) → Agree n v w → LitsBelow n ls → number w ls ≡ number v ls
number-agree n v w [] a h = refl
number-agree n v w (l ∷ ls) a h =
    let b : bit (lit_value w l) ≡ bit (lit_value v l) = ap bit (lit-agree n v w l a h.0) in
    let i = number-agree n v w ls a h.1 in
    omega (arith, b, i)

pub number-mapped : (v w : ℕ → Bool) (f : Lit → Lit) (ls : List Lit) → ((l : Lit) → lit_value v (f l) ≡ lit_value w l)
    → number v (map f ls) ≡ number w ls
number-mapped v w f [] h = refl
number-mapped v w f (l ∷ ls) h =
    let b : bit (lit_value v (f l)) ≡ bit (lit_value w l) = ap bit (h l) in
    let i = number-mapped v w f ls h in
    omega (arith, b, i)

pub number-one : (v : ℕ → Bool) (l : Lit) → number v (l ∷ []) ≡ bit (lit_value v l)
number-one v l = omega arith

pub bit-lt : (b : Bool) → bit b < 2
bit-lt true = omega arith
bit-lt false = omega arith

pub numeral-number : (v : ℕ → Bool) (one : Lit) (w x : ℕ) → lit_value v one ≡ true → x < 2 ^ w → number v (numeral_of one w x) ≡ x
numeral-number v one zero x h lt = omega (arith, lt)
numeral-number v one (suc w) x h lt =
    let e : 2 ^ suc w ≡ 2 * 2 ^ w = pow-succ' 2 w in
    let q : x / 2 < 2 ^ w = omega (arith, e, lt) in
    let i = numeral-number v one w (x / 2) h q in
    let b : bit (lit_value v (if x % 2 == 1 then one else negated one)) ≡ x % 2
    = if-cases {A = Lit} (x % 2 == 1) one (negated one) (λ (l : Lit). bit (lit_value v l) ≡ x % 2)
    (λ t. ap bit h ∙ sym (eqb-true (x % 2) 1 t))
    (λ t. ap bit (not-one v one h) ∙ zero-bit x t) in
    omega (arith, i, b)
  where
    zero-bit : (x : ℕ) → (x % 2 == 1) ≡ false → 0 ≡ x % 2
    zero-bit x t = let ne : x % 2 ≡ 1 → ⊥ = λ e. false≢true (sym t ∙ ap (λ (k : ℕ). k == 1) e) in omega (arith, ne)

pub copies-ones : (v : ℕ → Bool) (l : Lit) (n : ℕ) → lit_value v l ≡ true → number v (copies_of l n) + 1 ≡ 2 ^ n
copies-ones v l zero h = refl
copies-ones v l (suc n) h =
    let e : 2 ^ suc n ≡ 2 * 2 ^ n = pow-succ' 2 n in
    let b : bit (lit_value v l) ≡ 1 = ap bit h in
    let i = copies-ones v l n h in
    omega (arith, e, b, i)

pub copies-zeros : (v : ℕ → Bool) (l : Lit) (n : ℕ) → lit_value v l ≡ false → number v (copies_of l n) ≡ 0
copies-zeros v l zero h = refl
copies-zeros v l (suc n) h =
    let b : bit (lit_value v l) ≡ 0 = ap bit h in
    let i = copies-zeros v l n h in
    omega (arith, b, i)

pub spelled-number : (v : ℕ → Bool) (one : Lit) (ls : List Lit) (k : ℕ) → lit_value v one ≡ true → spelled_of one ls ≡ Some k → number v ls ≡ k
spelled-number v one [] k h e = some-same 0 k e
spelled-number v one (l ∷ ls) k h e =
    by (relation_of l one) refl (spelled_of one ls) (λ j q. spelled-number v one ls j h q) e
  where
    by : (r : Relation) → relation_of l one ≡ r → (s : Option ℕ) → ((j : ℕ) → s ≡ Some j → number v ls ≡ j) → with_bit r s ≡ Some k
        → number v (l ∷ ls) ≡ k
    by r er None f q = absurd (none-is-some k q)
    by Equal er (Some j) f q =
        let b : bit (lit_value v l) ≡ 1 = ap bit (one-value v l one er h) in
        let i = f j refl in
        let s = some-same (1 + 2 * j) k q in
        omega (arith, b, i, s)
    by Opposite er (Some j) f q =
        let b : bit (lit_value v l) ≡ 0 = ap bit (zero-value v l one er h) in
        let i = f j refl in
        let s = some-same (2 * j) k q in
        omega (arith, b, i, s)
    by Apart er (Some j) f q = absurd (none-is-some k q)

-- operations bit by bit
and-step : (x y : Bool) (a b : ℕ) → bit_and (bit x + 2 * a) (bit y + 2 * b) ≡ bit (x && y) + 2 * bit_and a b
and-step x y a b =
    let e : bit x + 2 * a ≡ a * 2 ^ 1 + bit x = omega arith in
    let g : bit y + 2 * b ≡ b * 2 ^ 1 + bit y = omega arith in
    let k : bit_and (a * 2 ^ 1 + bit x) (b * 2 ^ 1 + bit y) ≡ bit_and a b * 2 ^ 1 + bit_and (bit x) (bit y)
    = and_block 1 a b (bit x) (bit y) (bit-lt x) (bit-lt y) in
    let l : bit_and (bit x) (bit y) ≡ bit (x && y) = low x y in
    ap (λ (t : ℕ). bit_and t (bit y + 2 * b)) e ∙ (ap (λ (t : ℕ). bit_and (a * 2 ^ 1 + bit x) t) g ∙ omega (arith, k, l))
  where
    low : (x y : Bool) → bit_and (bit x) (bit y) ≡ bit (x && y)
    low true true = refl
    low true false = refl
    low false true = refl
    low false false = refl

or-step : (x y : Bool) (a b : ℕ) → bit_or (bit x + 2 * a) (bit y + 2 * b) ≡ bit (x || y) + 2 * bit_or a b
or-step x y a b =
    let e : bit x + 2 * a ≡ a * 2 ^ 1 + bit x = omega arith in
    let g : bit y + 2 * b ≡ b * 2 ^ 1 + bit y = omega arith in
    let k : bit_or (a * 2 ^ 1 + bit x) (b * 2 ^ 1 + bit y) ≡ bit_or a b * 2 ^ 1 + bit_or (bit x) (bit y)
    = or_block 1 a b (bit x) (bit y) (bit-lt x) (bit-lt y) in
    let l : bit_or (bit x) (bit y) ≡ bit (x || y) = low x y in
    ap (λ (t : ℕ). bit_or t (bit y + 2 * b)) e ∙ (ap (λ (t : ℕ). bit_or (a * 2 ^ 1 + bit x) t) g ∙ omega (arith, k, l))
  where
    low : (x y : Bool) → bit_or (bit x) (bit y) ≡ bit (x || y)
    low true true = refl
    low true false = refl
    low false true = refl
    low false false = refl

xor-step : (x y : Bool) (a b : ℕ) → bit_xor (bit x + 2 * a) (bit y + 2 * b) ≡ bit (xor x y) + 2 * bit_xor a b
xor-step x y a b =
    let e : bit x + 2 * a ≡ a * 2 ^ 1 + bit x = omega arith in
    let g : bit y + 2 * b ≡ b * 2 ^ 1 + bit y = omega arith in
    let k : bit_xor (a * 2 ^ 1 + bit x) (b * 2 ^ 1 + bit y) ≡ bit_xor a b * 2 ^ 1 + bit_xor (bit x) (bit y)
    = xor_block 1 a b (bit x) (bit y) (bit-lt x) (bit-lt y) in
    let l : bit_xor (bit x) (bit y) ≡ bit (xor x y) = low x y in
    ap (λ (t : ℕ). bit_xor t (bit y + 2 * b)) e ∙ (ap (λ (t : ℕ). bit_xor (a * 2 ^ 1 + bit x) t) g ∙ omega (arith, k, l))
  where
    low : (x y : Bool) → bit_xor (bit x) (bit y) ≡ bit (xor x y)
    low true true = refl
    low true false = refl
    low false true = refl
    low false false = refl

pub ands-number : (v : ℕ → Bool) (n : ℕ) (xs ys : List Lit) → length xs ≡ length ys → Meets v n (ands n xs ys).defs
    → number v (ands n xs ys).outs ≡ bit_and (number v xs) (number v ys)
ands-number v n [] [] e m = refl
ands-number v n [] (y ∷ ys) e m = absurd (omega (arith, e))
ands-number v n (x ∷ xs) [] e m = absurd (omega (arith, e))
ands-number v n (x ∷ xs) (y ∷ ys) e m =
    let i = ands-number v (suc n) xs ys (omega (arith, e)) m.1 in
    let b : bit (v n) ≡ bit (lit_value v x && lit_value v y) = ap bit m.0 in
    let s = and-step (lit_value v x) (lit_value v y) (number v xs) (number v ys) in
    omega (arith, i, b, s)

pub ors-number : (v : ℕ → Bool) (n : ℕ) (xs ys : List Lit) → length xs ≡ length ys → Meets v n (ands n (map negated xs) (map negated ys)).defs
    → number v (map negated (ands n (map negated xs) (map negated ys)).outs) ≡ bit_or (number v xs) (number v ys)
ors-number v n [] [] e m = refl
ors-number v n [] (y ∷ ys) e m = absurd (omega (arith, e))
ors-number v n (x ∷ xs) [] e m = absurd (omega (arith, e))
ors-number v n (x ∷ xs) (y ∷ ys) e m =
    let i = ors-number v (suc n) xs ys (omega (arith, e)) m.1 in
    let h : lit_value v (negated (positive_of n)) ≡ (lit_value v x || lit_value v y)
    = value-negated v (positive_of n) ∙ (ap not m.0 ∙ (ap (λ (t : Bool). not (t && lit_value v (negated y))) (value-negated v x)
    ∙ (ap (λ (t : Bool). not (not (lit_value v x) && t)) (value-negated v y) ∙ either (lit_value v x) (lit_value v y)))) in
    let b : bit (lit_value v (negated (positive_of n))) ≡ bit (lit_value v x || lit_value v y) = ap bit h in
    let s = or-step (lit_value v x) (lit_value v y) (number v xs) (number v ys) in
    omega (arith, i, b, s)
  where
    either : (x y : Bool) → not (not x && not y) ≡ (x || y)
    either true true = refl
    either true false = refl
    either false true = refl
    either false false = refl

pub xors-number : (v : ℕ → Bool) (n : ℕ) (xs ys : List Lit) → length xs ≡ length ys → Meets v n (xors n xs ys).defs
    → number v (xors n xs ys).outs ≡ bit_xor (number v xs) (number v ys)
xors-number v n [] [] e m = refl
xors-number v n [] (y ∷ ys) e m = absurd (omega (arith, e))
xors-number v n (x ∷ xs) [] e m = absurd (omega (arith, e))
xors-number v n (x ∷ xs) (y ∷ ys) e m =
    let i = xors-number v (suc n) xs ys (omega (arith, e)) m.1 in
    let b : bit (v n) ≡ bit (xor (lit_value v x) (lit_value v y)) = ap bit m.0 in
    let s = xor-step (lit_value v x) (lit_value v y) (number v xs) (number v ys) in
    omega (arith, i, b, s)

-- parts of a word
pub take-number : (v : ℕ → Bool) (w : ℕ) (ls : List Lit) → w ≤ length ls → number v (take w ls) ≡ number v ls % 2 ^ w
take-number v w ls le =
    let a : number v ls ≡ number v (take w ls) + 2 ^ length (take w ls) * number v (drop w ls)
    = ap (number v) (sym (take-append-drop w ls)) ∙ number-append v (take w ls) (drop w ls) in
    let l : length (take w ls) ≡ w = length-take-le w ls le in
    let lt : number v (take w ls) < 2 ^ w = subst (λ (k : ℕ). number v (take w ls) < 2 ^ k) l (number-lt v (take w ls)) in
    let b : number v ls ≡ number v (take w ls) + 2 ^ w * number v (drop w ls)
    = a ∙ ap (λ (k : ℕ). number v (take w ls) + 2 ^ k * number v (drop w ls)) l in
    sym (ap (λ (k : ℕ). k % 2 ^ w) b ∙ (add-mul-mod_self_left (number v (take w ls)) (2 ^ w) (number v (drop w ls)) ∙ mod-eq_of_lt lt))

pub standing-number : (v : ℕ → Bool) (k : ℕ) (ls : List Lit) → k < length ls → bit (lit_value v (standing ls k)) ≡ (number v ls / 2 ^ k) % 2
standing-number v k [] lt = absurd (omega (arith, lt))
standing-number v zero (l ∷ ls) lt =
    let b = bit-lt (lit_value v l) in
    omega (arith, b)
standing-number v (suc k) (l ∷ ls) lt =
    let i = standing-number v k ls (omega (arith, lt)) in
    let b = bit-lt (lit_value v l) in
    let e : 1 + k ≡ suc k = omega arith in
    let h : (bit (lit_value v l) + 2 * number v ls) / 2 ^ 1 ≡ number v ls = omega (arith, b) in
    let s : number v (l ∷ ls) / 2 ^ suc k ≡ number v ls / 2 ^ k
    = ap (λ (t : ℕ). number v (l ∷ ls) / 2 ^ t) (sym e) ∙ (sym (shr-shr (number v (l ∷ ls)) 1 k) ∙ ap (λ (t : ℕ). t / 2 ^ k) h) in
    i ∙ ap (λ (t : ℕ). t % 2) (sym s)

-- the top bit says whether the number is in the upper half
pub top-number : (v : ℕ → Bool) (ls : List Lit) → 1 ≤ length ls
    → (low : ℕ) × (low < 2 ^ (length ls - 1)) × (number v ls ≡ low + 2 ^ (length ls - 1) * bit (lit_value v (top_of ls)))
top-number v [] h = absurd (omega (arith, h))
top-number v (x ∷ []) h = (0, omega arith, omega arith)
top-number v (x ∷ y ∷ ys) h =
    let (low, lt, is) = top-number v (y ∷ ys) (omega arith) in
    let z : length (x ∷ y ∷ ys) - 1 ≡ suc (length (y ∷ ys) - 1) = omega arith in
    let P = 2 ^ (length (y ∷ ys) - 1) in
    let e : 2 ^ (length (x ∷ y ∷ ys) - 1) ≡ 2 * P = ap (λ (t : ℕ). 2 ^ t) z ∙ pow-succ' 2 (length (y ∷ ys) - 1) in
    let b = bit-lt (lit_value v x) in
    let t = bit (lit_value v (top_of (y ∷ ys))) in
    let g : 2 ^ (length (x ∷ y ∷ ys) - 1) * t ≡ 2 * (P * t)
    = ap (λ (k : ℕ). k * t) e ∙ omega arith in
    (bit (lit_value v x) + 2 * low, omega (arith, b, lt, e), omega (arith, is, g))
