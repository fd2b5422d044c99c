use Rattle.std.proofs.Common.{◌≡◌, ℕ, ◌+◌, ◌-◌, ◌*◌, ◌/◌, ◌^◌, ◌%◌, ◌≤◌, ◌<◌, length, List, [], ◌∷◌, ◌++◌, take, drop, arith, ap, sym, ◌∙◌, refl, suc, zero, Bool, true, false, not, cond, subst, ltb, ◌⊎◌, inl, inr}
use Rattle.std.proofs.Math.Nat.{pow-succ', pow-le-pow_right, add-mul-mod_self_left, mod-eq_of_lt, mul-mod_left, div-div-eq-div-mul, div-eq_of_lt, div-one, add-mul-div_left}
use Rattle.std.proofs.lemmas.Nat.{pow-add, pow_pos, mul-mod_first}
use Rattle.std.proofs.lemmas.Bool.{false≢true, ltb-true, ltb-false}
use Rattle.std.proofs.lemmas.List.{length-take-le, length-drop, take-append-drop}
use Rattle.prop.specs.declared.Lit.{Lit}
use Rattle.prop.specs.Logic.{negated, positive_of, lit_value}
use Rattle.bit_gates.specs.declared.shifters.Shift.{Shift}
use Rattle.bit_gates.specs.declared.shifters.Shift.TheVariants.{Left, Logical, Arithmetic}
use Rattle.bit_gates.specs.Net.{Meets, bit, number}
use Rattle.bit_gates.specs.Products.{Made, masked}
use Rattle.bit_gates.specs.Quotients.{selected, none_of}
use Rattle.bit_gates.specs.Shifts.{filled, emptied, right_stage, stage, last_stage, stages, top_of, shift_of}
use Rattle.bit_gates.specs.Laws.{Shifts}
use Rattle.bit_gates.proofs.Nets.{value-negated, meets-append}
use Rattle.bit_gates.proofs.AddLaws.{number-lt, double-pow}
use Rattle.bit_gates.proofs.ProductLaws.{masked-number, masked-length}
use Rattle.bit_gates.proofs.DivideLaws.{selected-length, none_of-law}
use Rattle.bit_gates.proofs.Lengths.{emptied-length, stage-length}
use Rattle.bit_gates.proofs.Within.{chosen}

-- the number that a test of literals spells
abbrev pub spelled : (Lit → Bool) → List Lit → ℕ
spelled f [] = 0
spelled f (l ∷ ls) = bit (f l) + 2 * spelled f ls

spelled-number : (v : ℕ → Bool) (xs : List Lit) → spelled (lit_value v) xs ≡ number v xs
spelled-number v [] = refl
spelled-number v (x ∷ xs) = ap (λ (t : ℕ). bit (lit_value v x) + 2 * t) (spelled-number v xs)

spelled-append : (f : Lit → Bool) (xs ys : List Lit) → spelled f (xs ++ ys) ≡ spelled f xs + 2 ^ length xs * spelled f ys
spelled-append f [] ys = omega arith
spelled-append f (x ∷ xs) ys =
    let i = spelled-append f xs ys in
    let p = double-pow (length xs) (spelled f ys) in
    omega arith

bit-le : (b : Bool) → bit b ≤ 1
bit-le true = omega arith
bit-le false = omega arith

spelled-lt : (f : Lit → Bool) (xs : List Lit) → spelled f xs < 2 ^ length xs
spelled-lt f [] = omega arith
spelled-lt f (x ∷ xs) =
    let i = spelled-lt f xs in
    let e : 2 ^ suc (length xs) ≡ 2 * 2 ^ length xs = pow-succ' 2 (length xs) in
    let b = bit-le (f x) in
    omega arith

bit-not : (b : Bool) → bit (not b) + bit b ≡ 1
bit-not true = refl
bit-not false = refl

spelled-not : (v : ℕ → Bool) (xs : List Lit) → spelled (λ l. not (lit_value v l)) xs + number v xs + 1 ≡ 2 ^ length xs
spelled-not v [] = omega arith
spelled-not v (x ∷ xs) =
    let i = spelled-not v xs in
    let e : 2 ^ suc (length xs) ≡ 2 * 2 ^ length xs = pow-succ' 2 (length xs) in
    let b = bit-not (lit_value v x) in
    omega arith

-- a test that goes through selections
record Reads (v : ℕ → Bool) (f : Lit → Bool) : Type 0 where
  selects : (o c x y : Lit) → lit_value v o ≡ cond (lit_value v c) (lit_value v x) (lit_value v y) → f o ≡ cond (lit_value v c) (f x) (f y)

reads-value : (v : ℕ → Bool) → Reads v (lit_value v)
reads-value v = record { selects = λ o c x y h. h }

reads-not : (v : ℕ → Bool) → Reads v (λ l. not (lit_value v l))
reads-not v = record { selects = λ o c x y h. ap not h ∙ by (lit_value v c) (lit_value v x) (lit_value v y) }
  where
    by : (c x y : Bool) → not (cond c x y) ≡ cond c (not x) (not y)
    by true x y = refl
    by false x y = refl

cond-same : (t : Bool) (x : ℕ) → x ≡ cond t x x
cond-same true x = refl
cond-same false x = refl

next-bit : (t o a b : Bool) (r x y : ℕ) → o ≡ cond t a b → r ≡ cond t x y → bit o + 2 * r ≡ cond t (bit a + 2 * x) (bit b + 2 * y)
next-bit true o a b r x y e h = let g = ap bit e in omega arith
next-bit false o a b r x y e h = let g = ap bit e in omega arith

selected-spelled : (v : ℕ → Bool) (f : Lit → Bool) → Reads v f → (n : ℕ) (c : Lit) (xs ys : List Lit) → length xs ≡ length ys → Meets v n (selected n c xs ys).defs
    → spelled f (selected n c xs ys).outs ≡ cond (lit_value v c) (spelled f xs) (spelled f ys)
selected-spelled v f r n c [] [] e m = cond-same (lit_value v c) 0
selected-spelled v f r n c [] (y ∷ ys) e m = absurd (omega arith)
selected-spelled v f r n c (x ∷ xs) [] e m = absurd (omega arith)
selected-spelled v f r n c (x ∷ xs) (y ∷ ys) e m =
    next-bit (lit_value v c) (f (positive_of n)) (f x) (f y) (spelled f (selected (suc n) c xs ys).outs) (spelled f xs) (spelled f ys)
    (r.selects (positive_of n) c x y m.0) (selected-spelled v f r (suc n) c xs ys (omega arith) m.1)

filled-spelled : (v : ℕ → Bool) (f : Lit → Bool) → Reads v f → (n : ℕ) (c : Lit) (xs : List Lit) (z : Lit) → f z ≡ false → Meets v n (filled n c xs z).defs
    → spelled f (filled n c xs z).outs ≡ cond (lit_value v c) (spelled f xs) 0
filled-spelled v f r n c [] z h m = cond-same (lit_value v c) 0
filled-spelled v f r n c (x ∷ xs) z h m =
    next-bit (lit_value v c) (f (positive_of n)) (f x) false (spelled f (filled (suc n) c xs z).outs) (spelled f xs) 0
    (r.selects (positive_of n) c x z m.0 ∙ ap (λ (t : Bool). cond (lit_value v c) (f x) t) h) (filled-spelled v f r (suc n) c xs z h m.1)

masked-spelled : (v : ℕ → Bool) (n : ℕ) (xs : List Lit) (c : Lit) → Meets v n (masked n xs c).defs
    → spelled (lit_value v) (masked n xs c).outs ≡ cond (lit_value v c) (spelled (lit_value v) xs) 0
masked-spelled v n xs c m =
    spelled-number v (masked n xs c).outs ∙ (masked-number v n xs c m ∙ by (lit_value v c) (number v xs) (spelled (lit_value v) xs) (spelled-number v xs))
  where
    by : (t : Bool) (x s : ℕ) → s ≡ x → x * bit t ≡ cond t s 0
    by true x s e = omega arith
    by false x s e = omega arith

-- what is known of a way to shift: what it lets in reads 0
record Lets (v : ℕ → Bool) (f : Lit → Bool) (how : Shift) (z : Lit) : Type 0 where
  empties : (n : ℕ) (c : Lit) (xs : List Lit) → Meets v n (emptied n how z c xs).defs → spelled f (emptied n how z c xs).outs ≡ cond (lit_value v c) (spelled f xs) 0

lets-left : (v : ℕ → Bool) (z : Lit) → Lets v (lit_value v) Left z
lets-left v z = record { empties = λ n c xs m. masked-spelled v n xs c m }

lets-logical : (v : ℕ → Bool) (z : Lit) → Lets v (lit_value v) Logical z
lets-logical v z = record { empties = λ n c xs m. masked-spelled v n xs c m }

lets-arithmetic : (v : ℕ → Bool) (f : Lit → Bool) → Reads v f → (z : Lit) → f z ≡ false → Lets v f Arithmetic z
lets-arithmetic v f r z h = record { empties = λ n c xs m. filled-spelled v f r n c xs z h m }

-- a motion of numbers of w bits
record Moves (w : ℕ) (move : ℕ → ℕ → ℕ) : Type 0 where
  none : (x : ℕ) → x < 2 ^ w → move x 0 ≡ x
  twice : (x i j : ℕ) → move (move x i) j ≡ move x (i + j)
  away : (x m : ℕ) → x < 2 ^ w → w ≤ m → move x m ≡ 0

-- a stage moves by its places where its bit is
record Steps (v : ℕ → Bool) (f : Lit → Bool) (how : Shift) (z : Lit) (w : ℕ) (move : ℕ → ℕ → ℕ) : Type 0 where
  one : (n k : ℕ) (b : Lit) (xs : List Lit) → length xs ≡ w → k < w → Meets v n (stage n how z k b xs).defs
      → spelled f (stage n how z k b xs).outs ≡ cond (lit_value v b) (move (spelled f xs) k) (spelled f xs)

far : (k w r : ℕ) → w ≤ k → 0 < r → w ≤ k * (0 + 2 * r)
far k w zero le h = absurd (omega arith)
far k w (suc r) le h = omega arith

last-law : (v : ℕ → Bool) (f : Lit → Bool) (how : Shift) (z : Lit) (w : ℕ) (move : ℕ → ℕ → ℕ) → Lets v f how z → Moves w move
    → (n k : ℕ) (xs : List Lit) (b : Lit) (bs : List Lit) → length xs ≡ w → w ≤ k → 1 ≤ k → Meets v n (last_stage n how z xs b bs).defs
    → spelled f (last_stage n how z xs b bs).outs ≡ move (spelled f xs) (k * number v (b ∷ bs))
last-law v f how z w move lets mv n k xs b bs e le pos m =
    let c = none_of n (negated b) bs in
    let p = meets-append v n c.defs (emptied (n + length c.defs) how z c.out xs).defs m in
    let l = none_of-law v n (negated b) bs p.0 in
    let x = spelled f xs in
    let xl : x < 2 ^ w = subst (λ (t : ℕ). x < 2 ^ t) e (spelled-lt f xs) in
    lets.empties (n + length c.defs) c.out xs p.1
    ∙ by (lit_value v c.out) (lit_value v b) (lit_value v (negated b)) (number v bs) x xl (value-negated v b) l.0 l.1
  where
    by : (t b nb : Bool) (r x : ℕ) → x < 2 ^ w → nb ≡ not b → (t ≡ true → (nb ≡ true) × (r ≡ 0)) → (t ≡ false → (nb ≡ false) ⊎ (0 < r))
        → cond t x 0 ≡ move x (k * (bit b + 2 * r))
    by true true nb r x xl en f g = absurd (false≢true (sym en ∙ (f refl).0))
    by true false nb r x xl en f g =
        let z = (f refl).1 in
        let q : k * (0 + 2 * r) ≡ 0 = ap (λ (t : ℕ). k * (0 + 2 * t)) z ∙ omega arith in
        sym (ap (λ (t : ℕ). move x t) q ∙ mv.none x xl)
    by false true nb r x xl en f g = sym (mv.away x (k * (1 + 2 * r)) xl (omega arith))
    by false false nb r x xl en f g = elim (g refl) [
      | inl h ↦ absurd (false≢true (sym h ∙ en))
      | inr h ↦ sym (mv.away x (k * (0 + 2 * r)) xl (far k w r le h))
    ]

stages-law : (v : ℕ → Bool) (f : Lit → Bool) (how : Shift) (z : Lit) (w : ℕ) (move : ℕ → ℕ → ℕ) → Lets v f how z → Moves w move → Steps v f how z w move
    → (n k : ℕ) (xs bs : List Lit) → length xs ≡ w → 1 ≤ k → Meets v n (stages n how z k xs bs).defs
    → (spelled f (stages n how z k xs bs).outs ≡ move (spelled f xs) (k * number v bs)) × (length (stages n how z k xs bs).outs ≡ w)
stages-law v f how z w move lets mv st n k xs [] e pos m =
    let x = spelled f xs in
    let xl : x < 2 ^ w = subst (λ (t : ℕ). x < 2 ^ t) e (spelled-lt f xs) in
    let q : k * 0 ≡ 0 = omega arith in
    (sym (ap (λ (t : ℕ). move x t) q ∙ mv.none x xl), e)
stages-law v f how z w move lets mv st n k xs (b ∷ bs) e pos given =
    let s = stage n how z k b xs in
    let r = stages (n + length s.defs) how z (2 * k) s.outs bs in
    let c = none_of n (negated b) bs in
    chosen {A = Made} (ltb k (length xs)) (record { defs = s.defs ++ r.defs; outs = r.outs }) (last_stage n how z xs b bs)
    (λ t. Meets v n t.defs → (spelled f t.outs ≡ move (spelled f xs) (k * number v (b ∷ bs))) × (length t.outs ≡ w))
    (λ h m.
    let lt = ltb-true k (length xs) h in
    let p = meets-append v n s.defs r.defs m in
    let sl : length s.outs ≡ w = stage-length n how z k b xs (omega arith) ∙ e in
    let o = st.one n k b xs e (omega arith) p.0 in
    let i = stages-law v f how z w move lets mv st (n + length s.defs) (2 * k) s.outs bs sl (omega arith) p.1 in
    (i.0 ∙ by (lit_value v b) (spelled f s.outs) (spelled f xs) (number v bs) o, i.1))
    (λ h m.
    let ge = ltb-false k (length xs) h in (
      last-law v f how z w move lets mv n k xs b bs e (omega arith) pos m,
      emptied-length (n + length c.defs) how z c.out xs ∙ e,
    ))
    given
  where
    by : (t : Bool) (s x r : ℕ) → s ≡ cond t (move x k) x → move s ((2 * k) * r) ≡ move x (k * (bit t + 2 * r))
    by true s x r o =
        let q : k + (2 * k) * r ≡ k * (1 + 2 * r) = omega arith in
        ap (λ (t : ℕ). move t ((2 * k) * r)) o ∙ (mv.twice x k ((2 * k) * r) ∙ ap (λ (t : ℕ). move x t) q)
    by false s x r o =
        let q : (2 * k) * r ≡ k * (0 + 2 * r) = omega arith in
        ap (λ (t : ℕ). move t ((2 * k) * r)) o ∙ ap (λ (t : ℕ). move x t) q

-- the two motions
below-away : (x w m : ℕ) → x < 2 ^ w → w ≤ m → x < 2 ^ m
below-away x w m h le = let p = pow-le-pow_right {n = 2} (omega arith) le in omega arith

right-moves : (w : ℕ) → Moves w (λ x m. x / 2 ^ m)
right-moves w = record {
  none = λ x h. div-one x;
  twice = λ x i j. div-div-eq-div-mul x (2 ^ i) (2 ^ j) ∙ ap (λ (t : ℕ). x / t) (sym (pow-add 2 i j));
  away = λ x m h le. div-eq_of_lt (below-away x w m h le);
}

left-moves : (w : ℕ) → Moves w (λ x m. (x * 2 ^ m) % 2 ^ w)
left-moves w = record {
  none = λ x h. ap (λ (t : ℕ). t % 2 ^ w) (once x) ∙ mod-eq_of_lt h;
  twice = λ x i j. mul-mod_first (x * 2 ^ i) (2 ^ j) (2 ^ w) ∙ ap (λ (t : ℕ). t % 2 ^ w) (both x i j);
  away = λ x m h le. ap (λ (t : ℕ). t % 2 ^ w) (all x m le) ∙ mul-mod_left (x * 2 ^ (m - w)) (2 ^ w);
}
  where
    once : (x : ℕ) → x * 2 ^ 0 ≡ x
    once x = omega arith

    group : (x p q : ℕ) → (x * p) * q ≡ x * (p * q)
    group x p q = omega arith

    both : (x i j : ℕ) → (x * 2 ^ i) * 2 ^ j ≡ x * 2 ^ (i + j)
    both x i j = group x (2 ^ i) (2 ^ j) ∙ ap (λ (t : ℕ). x * t) (sym (pow-add 2 i j))

    all : (x m : ℕ) → w ≤ m → x * 2 ^ m ≡ (x * 2 ^ (m - w)) * 2 ^ w
    all x m le =
        let q : m ≡ (m - w) + w = omega arith in
        ap (λ (t : ℕ). x * 2 ^ t) q ∙ (ap (λ (t : ℕ). x * t) (pow-add 2 (m - w) w) ∙ sym (group x (2 ^ (m - w)) (2 ^ w)))

split : (f : Lit → Bool) (k : ℕ) (xs : List Lit) → k ≤ length xs → spelled f xs ≡ spelled f (take k xs) + 2 ^ k * spelled f (drop k xs)
split f k xs le =
    ap (spelled f) (sym (take-append-drop k xs)) ∙ (spelled-append f (take k xs) (drop k xs)
    ∙ ap (λ (t : ℕ). spelled f (take k xs) + 2 ^ t * spelled f (drop k xs)) (length-take-le k xs le))

take-lt : (f : Lit → Bool) (k : ℕ) (xs : List Lit) → k ≤ length xs → spelled f (take k xs) < 2 ^ k
take-lt f k xs le = subst (λ (t : ℕ). spelled f (take k xs) < 2 ^ t) (length-take-le k xs le) (spelled-lt f (take k xs))

drop-div : (f : Lit → Bool) (k : ℕ) (xs : List Lit) → k ≤ length xs → spelled f (drop k xs) ≡ spelled f xs / 2 ^ k
drop-div f k xs le =
    let a = add-mul-div_left (spelled f (take k xs)) (spelled f (drop k xs)) (pow_pos k) in
    let b = div-eq_of_lt (take-lt f k xs le) in
    sym (ap (λ (t : ℕ). t / 2 ^ k) (split f k xs le) ∙ (a ∙ (ap (λ (t : ℕ). t + spelled f (drop k xs)) b ∙ omega arith)))

right-step : (v : ℕ → Bool) (f : Lit → Bool) (how : Shift) (z : Lit) → Reads v f → Lets v f how z
    → (n k : ℕ) (b : Lit) (xs : List Lit) → k ≤ length xs → Meets v n (right_stage n how z k b xs).defs
    → spelled f (right_stage n how z k b xs).outs ≡ cond (lit_value v b) (spelled f xs / 2 ^ k) (spelled f xs)
right-step v f how z rd lets n k b xs le m =
    let lo = take (length xs - k) xs in
    let hi = drop (length xs - k) xs in
    let s = selected n b (drop k xs) lo in
    let t = emptied (n + length s.defs) how z (negated b) hi in
    let p = meets-append v n s.defs t.defs m in
    let l1 = length-drop k xs in
    let l2 : length lo ≡ length xs - k = length-take-le (length xs - k) xs (omega arith) in
    let sl : length s.outs ≡ length xs - k = selected-length n b (drop k xs) lo (omega arith) ∙ l1 in
    let s1 = selected-spelled v f rd n b (drop k xs) lo (omega arith) p.0 in
    let t1 = lets.empties (n + length s.defs) (negated b) hi p.1 in
    let t2 : spelled f t.outs ≡ cond (not (lit_value v b)) (spelled f hi) 0 = t1 ∙ ap (λ (q : Bool). cond q (spelled f hi) 0) (value-negated v b) in
    let a : spelled f (s.outs ++ t.outs) ≡ spelled f s.outs + 2 ^ (length xs - k) * spelled f t.outs
    = spelled-append f s.outs t.outs ∙ ap (λ (q : ℕ). spelled f s.outs + 2 ^ q * spelled f t.outs) sl in
    a ∙ by (lit_value v b) (spelled f s.outs) (spelled f t.outs) (spelled f (drop k xs)) (spelled f lo) (spelled f hi) (spelled f xs) (2 ^ (length xs - k))
    (spelled f xs / 2 ^ k) s1 t2 (split f (length xs - k) xs (omega arith)) (drop-div f k xs le)
  where
    by : (b : Bool) (s t d l h x p q : ℕ) → s ≡ cond b d l → t ≡ cond (not b) h 0 → x ≡ l + p * h → d ≡ q → s + p * t ≡ cond b q x
    by true s t d l h x p q e1 e2 e3 e4 = let g = ap (λ (i : ℕ). p * i) e2 in omega arith
    by false s t d l h x p q e1 e2 e3 e4 = let g = ap (λ (i : ℕ). p * i) e2 in omega arith

left-step : (v : ℕ → Bool) (z : Lit) (n k : ℕ) (b : Lit) (xs : List Lit) → k ≤ length xs → Meets v n (stage n Left z k b xs).defs
    → spelled (lit_value v) (stage n Left z k b xs).outs
    ≡ cond (lit_value v b) ((spelled (lit_value v) xs * 2 ^ k) % 2 ^ length xs) (spelled (lit_value v) xs)
left-step v z n k b xs le m =
    let f = lit_value v in
    let w = length xs in
    let lo = take (w - k) xs in
    let hi = drop (w - k) xs in
    let t = masked n (take k xs) (negated b) in
    let s = selected (n + length t.defs) b lo (drop k xs) in
    let p = meets-append v n t.defs s.defs m in
    let l1 = length-drop k xs in
    let l2 : length lo ≡ w - k = length-take-le (w - k) xs (omega arith) in
    let tl : length t.outs ≡ k = masked-length n (take k xs) (negated b) ∙ length-take-le k xs le in
    let s1 = selected-spelled v f (reads-value v) (n + length t.defs) b lo (drop k xs) (omega arith) p.1 in
    let t1 = masked-spelled v n (take k xs) (negated b) p.0 in
    let t2 : spelled f t.outs ≡ cond (not (f b)) (spelled f (take k xs)) 0 = t1 ∙ ap (λ (q : Bool). cond q (spelled f (take k xs)) 0) (value-negated v b) in
    let a : spelled f (t.outs ++ s.outs) ≡ spelled f t.outs + 2 ^ k * spelled f s.outs
    = spelled-append f t.outs s.outs ∙ ap (λ (q : ℕ). spelled f t.outs + 2 ^ q * spelled f s.outs) tl in
    let pw : 2 ^ w ≡ 2 ^ (w - k) * 2 ^ k = ap (λ (q : ℕ). 2 ^ q) (back w le) ∙ pow-add 2 (w - k) k in
    let x1 : spelled f xs * 2 ^ k ≡ spelled f lo * 2 ^ k + 2 ^ w * spelled f hi
    = ap (λ (q : ℕ). q * 2 ^ k) (split f (w - k) xs (omega arith)) ∙ (open-up (spelled f lo) (2 ^ (w - k)) (spelled f hi) (2 ^ k)
    ∙ ap (λ (q : ℕ). spelled f lo * 2 ^ k + q * spelled f hi) (sym pw)) in
    let lt : spelled f lo * 2 ^ k < 2 ^ w = subst (λ (q : ℕ). spelled f lo * 2 ^ k < q) (sym pw) (grow (spelled f lo) (2 ^ (w - k)) (2 ^ k) (take-lt f (w - k) xs (omega arith)) (pow_pos k)) in
    let y : (spelled f xs * 2 ^ k) % 2 ^ w ≡ spelled f lo * 2 ^ k
    = ap (λ (q : ℕ). q % 2 ^ w) x1 ∙ (add-mul-mod_self_left (spelled f lo * 2 ^ k) (2 ^ w) (spelled f hi) ∙ mod-eq_of_lt lt) in
    a ∙ by (f b) (spelled f s.outs) (spelled f t.outs) (spelled f (drop k xs)) (spelled f lo) (spelled f (take k xs)) (spelled f xs) (2 ^ k)
    ((spelled f xs * 2 ^ k) % 2 ^ w) s1 t2 (split f k xs le) y
  where
    back : (w : ℕ) → k ≤ w → w ≡ (w - k) + k
    back w h = omega arith

    open-up : (l p h q : ℕ) → (l + p * h) * q ≡ l * q + (p * q) * h
    open-up l p h q = omega arith

    grow : (l p q : ℕ) → l < p → 0 < q → l * q < p * q
    grow l p q h g =
        let e : p ≡ suc l + (p - suc l) = omega arith in
        subst (λ (t : ℕ). l * q < t * q) (sym e) (more l (p - suc l) q g)
      where
        more : (l d q : ℕ) → 0 < q → l * q < (suc l + d) * q
        more l d q h = omega arith

    by : (b : Bool) (s t d l h x p q : ℕ) → s ≡ cond b l d → t ≡ cond (not b) h 0 → x ≡ h + p * d → q ≡ l * p → t + p * s ≡ cond b q x
    by true s t d l h x p q e1 e2 e3 e4 = let g = ap (λ (i : ℕ). p * i) e1 in omega arith
    by false s t d l h x p q e1 e2 e3 e4 = let g = ap (λ (i : ℕ). p * i) e1 in omega arith

top-law : (v : ℕ → Bool) (xs : List Lit) → 1 ≤ length xs
    → (lit_value v (top_of xs) ≡ true → 2 ^ length xs ≤ 2 * number v xs) × (lit_value v (top_of xs) ≡ false → 2 * number v xs < 2 ^ length xs)
top-law v [] h = absurd (omega arith)
top-law v (x ∷ []) h = (λ e. let g = ap bit e in omega arith, λ e. let g = ap bit e in omega arith)
top-law v (x ∷ y ∷ ys) h =
    let i = top-law v (y ∷ ys) (omega arith) in
    let p : 2 ^ suc (suc (length ys)) ≡ 2 * 2 ^ suc (length ys) = pow-succ' 2 (suc (length ys)) in
    let b = bit-le (lit_value v x) in (
      λ e. high (bit (lit_value v x)) (number v (y ∷ ys)) (2 ^ suc (length ys)) (2 ^ suc (suc (length ys))) p (i.0 e),
      λ e. low (bit (lit_value v x)) (number v (y ∷ ys)) (2 ^ suc (length ys)) (2 ^ suc (suc (length ys))) p b (even (length ys)) (i.1 e),
    )
  where
    high : (b n p q : ℕ) → q ≡ 2 * p → p ≤ 2 * n → q ≤ 2 * (b + 2 * n)
    high b n p q e h = omega arith

    low : (b n p q : ℕ) → q ≡ 2 * p → b ≤ 1 → (r : ℕ) × (p ≡ 2 * r) → 2 * n < p → 2 * (b + 2 * n) < q
    low b n p q e l r h = let s = r.1 in omega arith

    even : (k : ℕ) → (r : ℕ) × (2 ^ suc k ≡ 2 * r)
    even k = (2 ^ k, pow-succ' 2 k)

once-more : (k : ℕ) → 1 * k ≡ k
once-more k = omega arith

top-false : (t : Bool) (p n : ℕ) → (t ≡ true → p ≤ n) → n < p → t ≡ false
top-false true p n f l = let g = f refl in absurd (omega arith)
top-false false p n f l = refl

top-true : (t : Bool) (p n : ℕ) → (t ≡ false → n < p) → p ≤ n → t ≡ true
top-true true p n f l = refl
top-true false p n f l = let g = f refl in absurd (omega arith)

spelled-other : (v : ℕ → Bool) (xs : List Lit) → spelled (λ l. not (lit_value v l)) xs ≡ 2 ^ length xs - 1 - number v xs
spelled-other v xs = let h = spelled-not v xs in omega arith

both-sides : (o p d : ℕ) → o < p → p - 1 - o ≡ d → o + d ≡ p - 1
both-sides o p d h e = omega arith

arithmetic-law : (v : ℕ → Bool) (f : Lit → Bool) → Reads v f → (n : ℕ) (xs bs : List Lit) → f (top_of xs) ≡ false
    → Meets v n (shift_of n Arithmetic xs bs).defs
    → (spelled f (shift_of n Arithmetic xs bs).outs ≡ spelled f xs / 2 ^ number v bs) × (length (shift_of n Arithmetic xs bs).outs ≡ length xs)
arithmetic-law v f rd n xs bs t m =
    let w = length xs in
    let z = top_of xs in
    let lets = lets-arithmetic v f rd z t in
    let st : Steps v f Arithmetic z w (λ x m. x / 2 ^ m) = record { one = λ n k b ys e l g. right-step v f Arithmetic z rd lets n k b ys (omega arith) g } in
    let r = stages-law v f Arithmetic z w (λ x m. x / 2 ^ m) lets (right-moves w) st n 1 xs bs refl (omega arith) m in
    (r.0 ∙ ap (λ (t : ℕ). spelled f xs / 2 ^ t) (once-more (number v bs)), r.1)

pub shift_of-law : (v : ℕ → Bool) (n : ℕ) (how : Shift) (xs bs : List Lit) → 1 ≤ length xs → Meets v n (shift_of n how xs bs).defs
    → Shifts how xs bs (shift_of n how xs bs).outs v
shift_of-law v n Left xs bs h m =
    let f = lit_value v in
    let w = length xs in
    let o = (shift_of n Left xs bs).outs in
    let st : Steps v f Left (top_of xs) w (λ x m. (x * 2 ^ m) % 2 ^ w) = record {
      one = λ n k b ys e l g.
          subst (λ (t : ℕ). spelled f (stage n Left (top_of xs) k b ys).outs ≡ cond (f b) ((spelled f ys * 2 ^ k) % 2 ^ t) (spelled f ys)) e
          (left-step v (top_of xs) n k b ys (omega arith) g);
    } in
    let r = stages-law v f Left (top_of xs) w (λ x m. (x * 2 ^ m) % 2 ^ w) (lets-left v (top_of xs)) (left-moves w) st n 1 xs bs refl (omega arith) m in
    sym (spelled-number v o) ∙ (r.0 ∙ (ap (λ (t : ℕ). (spelled f xs * 2 ^ t) % 2 ^ w) (once-more (number v bs))
    ∙ ap (λ (t : ℕ). (t * 2 ^ number v bs) % 2 ^ w) (spelled-number v xs)))
shift_of-law v n Logical xs bs h m =
    let f = lit_value v in
    let w = length xs in
    let z = top_of xs in
    let o = (shift_of n Logical xs bs).outs in
    let st : Steps v f Logical z w (λ x m. x / 2 ^ m) = record { one = λ n k b ys e l g. right-step v f Logical z (reads-value v) (lets-logical v z) n k b ys (omega arith) g } in
    let r = stages-law v f Logical z w (λ x m. x / 2 ^ m) (lets-logical v z) (right-moves w) st n 1 xs bs refl (omega arith) m in
    sym (spelled-number v o) ∙ (r.0 ∙ (ap (λ (t : ℕ). spelled f xs / 2 ^ t) (once-more (number v bs)) ∙ ap (λ (t : ℕ). t / 2 ^ number v bs) (spelled-number v xs)))
shift_of-law v n Arithmetic xs bs h m = (
  λ l.
      let f = lit_value v in
      let z = top_of xs in
      let o = (shift_of n Arithmetic xs bs).outs in
      let t = top-false (lit_value v z) (2 ^ length xs) (2 * number v xs) (top-law v xs h).0 l in
      let r = arithmetic-law v f (reads-value v) n xs bs t m in
      sym (spelled-number v o) ∙ (r.0 ∙ ap (λ (t : ℕ). t / 2 ^ number v bs) (spelled-number v xs)),
  λ l.
      let z = top_of xs in
      let o = (shift_of n Arithmetic xs bs).outs in
      let t = top-true (lit_value v z) (2 ^ length xs) (2 * number v xs) (top-law v xs h).1 l in
      let r = arithmetic-law v (λ l. not (lit_value v l)) (reads-not v) n xs bs (ap not t) m in
      let x = spelled-other v xs in
      let y = ap (λ (t : ℕ). 2 ^ t - 1 - number v o) (sym r.1) ∙ (sym (spelled-other v o) ∙ (r.0 ∙ ap (λ (t : ℕ). t / 2 ^ number v bs) x)) in
      let lt : number v o < 2 ^ length xs = subst (λ (t : ℕ). number v o < 2 ^ t) r.1 (number-lt v o) in
      both-sides (number v o) (2 ^ length xs) ((2 ^ length xs - 1 - number v xs) / 2 ^ number v bs) lt y,
)
