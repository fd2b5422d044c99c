use Rattle.std.proofs.Common.{◌≡◌, ℕ, ◌+◌, ◌*◌, ◌^◌, ◌≤◌, ◌<◌, length, List, [], ◌∷◌, ◌++◌, map, arith, ap, sym, ◌∙◌, refl, suc, Bool, true, false, not, ◌&&◌, cond, subst, ◌⊎◌, inl, inr}
use Rattle.std.proofs.Math.Nat.{pow-succ'}
use Rattle.std.proofs.lemmas.List.{length-map}
use Rattle.std.proofs.lemmas.Bool.{false≢true}
use Rattle.prop.specs.declared.Lit.{Lit}
use Rattle.prop.specs.Logic.{negated, positive_of, lit_value}
use Rattle.bit_gates.specs.declared.netlist.Def.TheVariants.{And}
use Rattle.bit_gates.specs.Net.{Meets, bit, number}
use Rattle.bit_gates.specs.Sums.{ripple}
use Rattle.bit_gates.specs.Products.{masked}
use Rattle.bit_gates.specs.Quotients.{shifted, selected, div_step, zeros, divided, none_of, quotient}
use Rattle.bit_gates.specs.Laws.{Divides}
use Rattle.bit_gates.proofs.Nets.{meets-append, value-negated}
use Rattle.bit_gates.proofs.AddLaws.{double-pow, number-lt, ripple-sum, ripple-length}
use Rattle.bit_gates.proofs.ProductLaws.{masked-number}

pub shifted-length : (a : Lit) (xs : List Lit) → length (shifted a xs).low ≡ length xs
shifted-length a [] = refl
shifted-length a (x ∷ xs) = ap suc (shifted-length x xs)

pub shifted-number : (v : ℕ → Bool) (a : Lit) (xs : List Lit)
    → number v (shifted a xs).low + 2 ^ length xs * bit (lit_value v (shifted a xs).top) ≡ bit (lit_value v a) + 2 * number v xs
shifted-number v a [] = omega arith
shifted-number v a (x ∷ xs) =
    let i = shifted-number v x xs in
    let d = double-pow (length xs) (bit (lit_value v (shifted x xs).top)) in
    omega arith

bit-not : (b : Bool) → bit (not b) + bit b ≡ 1
bit-not true = refl
bit-not false = refl

pub negated-number : (v : ℕ → Bool) (xs : List Lit) → number v (map negated xs) + number v xs + 1 ≡ 2 ^ length xs
negated-number v [] = omega arith
negated-number v (x ∷ xs) =
    let i = negated-number v xs in
    let e : 2 ^ suc (length xs) ≡ 2 * 2 ^ length xs = pow-succ' 2 (length xs) in
    let b : bit (lit_value v (negated x)) + bit (lit_value v x) ≡ 1 = ap (λ (t : Bool). bit t + bit (lit_value v x)) (value-negated v x) ∙ bit-not (lit_value v x) in
    omega arith

pub selected-number : (v : ℕ → Bool) (n : ℕ) (c : Lit) (xs ys : List Lit) → length xs ≡ length ys → Meets v n (selected n c xs ys).defs
    → number v (selected n c xs ys).outs ≡ cond (lit_value v c) (number v xs) (number v ys)
selected-number v n c xs ys e m = elim (lit_value v c) as (λ t. lit_value v c ≡ t → number v (selected n c xs ys).outs ≡ cond t (number v xs) (number v ys)) [
  | true ↦ (λ h. yes-case n xs ys e m h)
  | false ↦ (λ h. no-case n xs ys e m h)
] refl
  where
    yes-case : (n : ℕ) (xs ys : List Lit) → length xs ≡ length ys → Meets v n (selected n c xs ys).defs → lit_value v c ≡ true
        → number v (selected n c xs ys).outs ≡ number v xs
    yes-case n [] ys e m h = refl
    yes-case n (x ∷ xs) [] e m h = absurd (omega arith)
    yes-case n (x ∷ xs) (y ∷ ys) e m h =
        let i = yes-case (suc n) xs ys (omega arith) m.1 h in
        let f : v n ≡ lit_value v x = m.0 ∙ ap (λ (t : Bool). cond t (lit_value v x) (lit_value v y)) h in
        let g = ap bit f in omega arith

    no-case : (n : ℕ) (xs ys : List Lit) → length xs ≡ length ys → Meets v n (selected n c xs ys).defs → lit_value v c ≡ false
        → number v (selected n c xs ys).outs ≡ number v ys
    no-case n [] [] e m h = refl
    no-case n [] (y ∷ ys) e m h = absurd (omega arith)
    no-case n (x ∷ xs) [] e m h = absurd (omega arith)
    no-case n (x ∷ xs) (y ∷ ys) e m h =
        let i = no-case (suc n) xs ys (omega arith) m.1 h in
        let f : v n ≡ lit_value v y = m.0 ∙ ap (λ (t : Bool). cond t (lit_value v x) (lit_value v y)) h in
        let g = ap bit f in omega arith

pub selected-length : (n : ℕ) (c : Lit) (xs ys : List Lit) → length xs ≡ length ys → length (selected n c xs ys).outs ≡ length xs
selected-length n c [] ys e = refl
selected-length n c (x ∷ xs) [] e = absurd (omega arith)
selected-length n c (x ∷ xs) (y ∷ ys) e = ap suc (selected-length (suc n) c xs ys (omega arith))

step-cases : (t c q : Bool) (s p nb b w r a o : ℕ) → p + w * bit t ≡ a + 2 * r → nb + b + 1 ≡ w → s + w * bit c ≡ p + nb + 1
    → q ≡ not (not t && not c) → o ≡ cond q s p → s < w → p < w → r < b → a ≤ 1
    → (o + bit q * b ≡ 2 * r + a) × (o < b)
step-cases true true true s p nb b w r a o e1 e2 e3 eq eo l1 l2 l3 l4 = (omega arith, omega arith)
step-cases true true false s p nb b w r a o e1 e2 e3 eq eo l1 l2 l3 l4 = absurd (false≢true eq)
step-cases true false true s p nb b w r a o e1 e2 e3 eq eo l1 l2 l3 l4 = (omega arith, omega arith)
step-cases true false false s p nb b w r a o e1 e2 e3 eq eo l1 l2 l3 l4 = absurd (false≢true eq)
step-cases false true true s p nb b w r a o e1 e2 e3 eq eo l1 l2 l3 l4 = (omega arith, omega arith)
step-cases false true false s p nb b w r a o e1 e2 e3 eq eo l1 l2 l3 l4 = absurd (false≢true eq)
step-cases false false true s p nb b w r a o e1 e2 e3 eq eo l1 l2 l3 l4 = absurd (false≢true (sym eq))
step-cases false false false s p nb b w r a o e1 e2 e3 eq eo l1 l2 l3 l4 = (omega arith, omega arith)

bit-le : (b : Bool) → bit b ≤ 1
bit-le true = omega arith
bit-le false = omega arith

step-law : (v : ℕ → Bool) (n : ℕ) (one a : Lit) (r b : List Lit) → length r ≡ length b → lit_value v one ≡ true
    → number v r < number v b → Meets v n (div_step n one a r (map negated b)).defs
    → (number v (div_step n one a r (map negated b)).rest + bit (lit_value v (div_step n one a r (map negated b)).quot) * number v b ≡ 2 * number v r + bit (lit_value v a))
    × (number v (div_step n one a r (map negated b)).rest < number v b)
step-law v n one a r b e h lt m =
    let p = shifted a r in
    let pl = shifted-length a r in
    let nb = map negated b in
    let nl : length nb ≡ length b = length-map b negated in
    let s = ripple n p.low nb one in
    let k = n + length s.defs in
    let q = negated (positive_of k) in
    let t = selected (suc k) q s.outs p.low in
    let d = meets-append v n s.defs (And (negated p.top) (negated s.carry) ∷ t.defs) m in
    let sl : length s.outs ≡ length p.low = ripple-length n p.low nb one (pl ∙ (e ∙ sym nl)) in
    let s1 = ripple-sum v n p.low nb one (pl ∙ (e ∙ sym nl)) d.0 in
    let w = 2 ^ length b in
    let plb = pl ∙ e in
    let o1 = ap bit h in
    let s2 : number v s.outs + w * bit (lit_value v s.carry) ≡ number v p.low + number v nb + 1
    = subst (λ (z : ℕ). number v s.outs + 2 ^ z * bit (lit_value v s.carry) ≡ number v p.low + number v nb + 1) plb (s1 ∙ ap (λ (z : ℕ). number v p.low + number v nb + z) o1) in
    let p1 : number v p.low + w * bit (lit_value v p.top) ≡ bit (lit_value v a) + 2 * number v r
    = subst (λ (z : ℕ). number v p.low + 2 ^ z * bit (lit_value v p.top) ≡ bit (lit_value v a) + 2 * number v r) e (shifted-number v a r) in
    let q1 : not (v k) ≡ not (not (lit_value v p.top) && not (lit_value v s.carry))
    = ap not (d.1.0 ∙ (ap (λ (z : Bool). z && lit_value v (negated s.carry)) (value-negated v p.top)
    ∙ ap (λ (z : Bool). not (lit_value v p.top) && z) (value-negated v s.carry))) in
    let t1 = selected-number v (suc k) q s.outs p.low sl d.1.1 in
    let l1 : number v s.outs < w = subst (λ (z : ℕ). number v s.outs < 2 ^ z) (sl ∙ plb) (number-lt v s.outs) in
    let l2 : number v p.low < w = subst (λ (z : ℕ). number v p.low < 2 ^ z) plb (number-lt v p.low) in
    step-cases (lit_value v p.top) (lit_value v s.carry) (not (v k)) (number v s.outs) (number v p.low) (number v nb) (number v b) w
    (number v r) (bit (lit_value v a)) (number v t.outs) p1 (negated-number v b) s2 q1 t1 l1 l2 lt (bit-le (lit_value v a))

zeros-number : (v : ℕ → Bool) (one : Lit) (b : List Lit) → lit_value v one ≡ true → number v (zeros (negated one) b) ≡ 0
zeros-number v one [] h = refl
zeros-number v one (x ∷ b) h =
    let i = zeros-number v one b h in
    let e : lit_value v (negated one) ≡ false = value-negated v one ∙ ap not h in
    let g = ap bit e in omega arith

pub zeros-length : (z : Lit) (b : List Lit) → length (zeros z b) ≡ length b
zeros-length z [] = refl
zeros-length z (x ∷ b) = ap suc (zeros-length z b)

pub step-length : (n : ℕ) (one a : Lit) (r b : List Lit) → length r ≡ length b → length (div_step n one a r (map negated b)).rest ≡ length b
step-length n one a r b e =
    let p = shifted a r in
    let pl = shifted-length a r in
    let nb = map negated b in
    let nl : length nb ≡ length b = length-map b negated in
    let s = ripple n p.low nb one in
    let k = n + length s.defs in
    let sl : length s.outs ≡ length p.low = ripple-length n p.low nb one (pl ∙ (e ∙ sym nl)) in
    selected-length (suc k) (negated (positive_of k)) s.outs p.low sl ∙ (sl ∙ (pl ∙ e))

pub divided-length : (n : ℕ) (one : Lit) (xs b : List Lit) → length (divided n one xs b).rest ≡ length b
divided-length n one [] b = zeros-length (negated one) b
divided-length n one (a ∷ xs) b =
    let d = divided n one xs b in
    step-length (n + length d.defs) one a d.rest b (divided-length n one xs b)

div-algebra : (a x q b r bq o : ℕ) → x ≡ q * b + r → o + bq * b ≡ 2 * r + a → a + 2 * x ≡ (bq + 2 * q) * b + o
div-algebra a x q b r bq o e1 e2 = omega arith

pub divided-law : (v : ℕ → Bool) (n : ℕ) (one : Lit) (xs b : List Lit) → lit_value v one ≡ true → 0 < number v b
    → Meets v n (divided n one xs b).defs
    → (number v xs ≡ number v (divided n one xs b).quot * number v b + number v (divided n one xs b).rest)
    × (number v (divided n one xs b).rest < number v b)
divided-law v n one [] b h lt m = let z = zeros-number v one b h in (omega arith, omega arith)
divided-law v n one (a ∷ xs) b h lt m =
    let d = divided n one xs b in
    let k = n + length d.defs in
    let s = div_step k one a d.rest (map negated b) in
    let p = meets-append v n d.defs s.defs m in
    let i = divided-law v n one xs b h lt p.0 in
    let j = step-law v k one a d.rest b (divided-length n one xs b) h i.1 p.1 in
    (div-algebra (bit (lit_value v a)) (number v xs) (number v d.quot) (number v b) (number v d.rest) (bit (lit_value v s.quot)) (number v s.rest) i.0 j.0, j.1)

pub none_of-law : (v : ℕ → Bool) (n : ℕ) (z : Lit) (b : List Lit) → Meets v n (none_of n z b).defs
    → (lit_value v (none_of n z b).out ≡ true → (lit_value v z ≡ true) × (number v b ≡ 0))
    × (lit_value v (none_of n z b).out ≡ false → (lit_value v z ≡ false) ⊎ (0 < number v b))
none_of-law v n z [] m = (λ h. (h, refl), λ h. inl h)
none_of-law v n z (x ∷ b) m =
    let i = none_of-law v (suc n) (positive_of n) b m.1 in
    let e : v n ≡ (lit_value v z && not (lit_value v x)) = m.0 ∙ ap (λ (t : Bool). lit_value v z && t) (value-negated v x) in (
      λ h. let j = i.0 h in by-true (lit_value v z) (lit_value v x) (number v b) (sym e ∙ j.0) j.1,
      λ h. by-false (v n) (lit_value v z) (lit_value v x) (number v b) e (i.1 h),
    )
  where
    by-true : (z x : Bool) (k : ℕ) → (z && not x) ≡ true → k ≡ 0 → (z ≡ true) × (bit x + 2 * k ≡ 0)
    by-true true true k e h = absurd (false≢true e)
    by-true true false k e h = (refl, omega arith)
    by-true false x k e h = absurd (false≢true e)

    by-false : (w z x : Bool) (k : ℕ) → w ≡ (z && not x) → (w ≡ false) ⊎ (0 < k) → (z ≡ false) ⊎ (0 < bit x + 2 * k)
    by-false w false x k e h = inl refl
    by-false w true true k e h = inr (omega arith)
    by-false w true false k e (inl h) = absurd (false≢true (sym h ∙ e))
    by-false w true false k e (inr h) = inr (omega arith)

pub quotient-law : (v : ℕ → Bool) (n : ℕ) (xs b : List Lit) → Meets v n (quotient n xs b).defs
    → Divides xs b (quotient n xs b).quot (quotient n xs b).rest v
quotient-law v n xs b m =
    let one = positive_of n in
    let d = divided (suc n) one xs b in
    let k = suc n + length d.defs in
    let z = none_of k one b in
    let l = k + length z.defs in
    let q = masked l d.quot (negated z.out) in
    let o = l + length q.defs in
    let r = masked o d.rest (negated z.out) in
    let m1 = meets-append v (suc n) d.defs (z.defs ++ (q.defs ++ r.defs)) m.1 in
    let m2 = meets-append v k z.defs (q.defs ++ r.defs) m1.1 in
    let m3 = meets-append v l q.defs r.defs m2.1 in
    let nz = none_of-law v k one b m2.0 in
    let en = value-negated v z.out in
    let q1 : number v q.outs ≡ number v d.quot * bit (not (lit_value v z.out)) = masked-number v l d.quot (negated z.out) m3.0 ∙ ap (λ (t : Bool). number v d.quot * bit t) en in
    let r1 : number v r.outs ≡ number v d.rest * bit (not (lit_value v z.out)) = masked-number v o d.rest (negated z.out) m3.1 ∙ ap (λ (t : Bool). number v d.rest * bit t) en in (
      λ h. by-zero (lit_value v z.out) (number v d.quot) (number v d.rest) (number v q.outs) (number v r.outs) (number v b) q1 r1 h m.0 nz.1,
      λ h. by-some (lit_value v z.out) (number v d.quot) (number v d.rest) (number v q.outs) (number v r.outs) (number v b) (number v xs) q1 r1 h
          (divided-law v (suc n) one xs b m.0 h m1.0) nz.0,
    )
  where
    by-zero : (z : Bool) (dq dr q r b : ℕ) → q ≡ dq * bit (not z) → r ≡ dr * bit (not z) → b ≡ 0 → v n ≡ true
        → (z ≡ false → (v n ≡ false) ⊎ (0 < b)) → (q ≡ 0) × (r ≡ 0)
    by-zero true dq dr q r b eq er h t f = (omega arith, omega arith)
    by-zero false dq dr q r b eq er h t f = elim (f refl) [ inl e ↦ absurd (false≢true (sym e ∙ t)) | inr e ↦ absurd (omega arith) ]

    by-some : (z : Bool) (dq dr q r b x : ℕ) → q ≡ dq * bit (not z) → r ≡ dr * bit (not z) → 0 < b
        → (x ≡ dq * b + dr) × (dr < b) → (z ≡ true → (v n ≡ true) × (b ≡ 0)) → (x ≡ q * b + r) × (r < b)
    by-some true dq dr q r b x eq er h t f = absurd (omega (arith, (f refl).1))
    by-some false dq dr q r b x eq er h t f =
        let e : q ≡ dq = omega arith in
        let g : r ≡ dr = omega arith in
        (rw (e, g) t.0, rw g t.1)
