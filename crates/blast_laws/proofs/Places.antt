-- Places that an index names, and a choice among cells by these.
use Rattle.std.proofs.Common.{◌≡◌, ℕ, ◌+◌, ◌-◌, ◌*◌, ◌≤◌, ◌<◌, length, List, [], ◌∷◌, map, arith, ap, sym, ◌∙◌, refl, suc, zero, Bool, true, false, not, ◌&&◌, cond, ltb, eqb}
use Rattle.std.proofs.lemmas.Bool.{eqb-true, eq-eqb, ne_eqb, ltb-true, ltb-false, false≢true}
use Rattle.prop.specs.declared.Lit.{Lit}
use Rattle.prop.specs.Logic.{negated, positive_of, lit_value}
use Rattle.bit_gates.specs.declared.netlist.Def.TheVariants.{And}
use Rattle.bit_gates.specs.Net.{Meets, bit, number}
use Rattle.bit_gates.specs.Products.{Made}
use Rattle.bit_gates.specs.Quotients.{selected}
use Rattle.bit_gates.proofs.Nets.{value-negated, meets-append}
use Rattle.bit_gates.proofs.Within.{chosen}
use Rattle.bit_gates.proofs.DivideLaws.{selected-number}
use Rattle.bit_words.specs.Elements.{half_of, doubled, decoded, picked, AllLong}
use Rattle.bit_blast.specs.Emission.{cell_at}
use Rattle.bit_blast.proofs.Lengths.{picked-length}

-- the literals hold where f says
abbrev pub Spots : (ℕ → Bool) → (ℕ → Bool) → List Lit → Type 0
Spots v f [] = Unit {0}
Spots v f (l ∷ ls) = (lit_value v l ≡ f 0) × Spots v (λ j. f (suc j)) ls

pub spots-same : (v f g : ℕ → Bool) (ls : List Lit) → ((j : ℕ) → f j ≡ g j) → Spots v f ls → Spots v g ls
spots-same v f g [] e h = tt
spots-same v f g (l ∷ ls) e h = (h.0 ∙ e 0, spots-same v (λ j. f (suc j)) (λ j. g (suc j)) ls (λ j. e (suc j)) h.1)

pub spots-mapped : (v w f : ℕ → Bool) (r : Lit → Lit) (ls : List Lit) → ((l : Lit) → lit_value v (r l) ≡ lit_value w l) → Spots w f ls
    → Spots v f (map r ls)
spots-mapped v w f r [] e h = tt
spots-mapped v w f r (l ∷ ls) e h = (e l ∙ h.0, spots-mapped v w (λ j. f (suc j)) r ls e h.1)

twice : (j : ℕ) → 2 * suc j ≡ suc (suc (2 * j))
twice j = omega arith

doubled-spots : (v f g : ℕ → Bool) (n : ℕ) (b : Lit) (count : ℕ) (hs : List Lit)
    → ((j : ℕ) → g (2 * j) ≡ (f j && not (lit_value v b))) → ((j : ℕ) → g (suc (2 * j)) ≡ (f j && lit_value v b))
    → Spots v f hs → Meets v n (doubled n b count hs).defs → Spots v g (doubled n b count hs).outs
doubled-spots v f g n b count [] e o h m = tt
doubled-spots v f g n b count (x ∷ hs) e o h m =
    let r = doubled (suc (suc n)) b (count - 2) hs in
    chosen {A = Made} (ltb 1 count)
    (record { defs = And x (negated b) ∷ And x b ∷ r.defs; outs = positive_of n ∷ positive_of (suc n) ∷ r.outs })
    (record { defs = And x (negated b) ∷ []; outs = positive_of n ∷ [] })
    (λ t. Meets v n t.defs → Spots v g t.outs)
    (λ t x0. (
      low x0.0,
      (
        x0.1.0 ∙ (ap (λ (t : Bool). t && lit_value v b) h.0 ∙ sym (o 0)),
        doubled-spots v (λ j. f (suc j)) (λ j. g (suc (suc j))) (suc (suc n)) b (count - 2) hs
            (λ j. ap g (sym (twice j)) ∙ e (suc j)) (λ j. ap (λ (t : ℕ). g (suc t)) (sym (twice j)) ∙ o (suc j)) h.1 x0.1.1,
      ),
    ))
    (λ t x0. (low x0.0, tt)) m
  where
    low : v n ≡ (lit_value v x && lit_value v (negated b)) → v n ≡ g 0
    low q = q ∙ (ap (λ (t : Bool). t && lit_value v (negated b)) h.0 ∙ (ap (λ (t : Bool). f 0 && t) (value-negated v b) ∙ sym (e 0)))

eqb-both : (a b c d : ℕ) → (a ≡ b → c ≡ d) → (c ≡ d → a ≡ b) → eqb c d ≡ eqb a b
eqb-both a b c d f g = by (eqb a b) refl
  where
    by : (t : Bool) → eqb a b ≡ t → eqb c d ≡ t
    by true e = eq-eqb c d (f (eqb-true a b e))
    by false e = ne_eqb c d (λ q. false≢true (sym e ∙ eq-eqb a b (g q)))

pub eqb-suc : (i j : ℕ) → eqb (suc i) (suc j) ≡ eqb i j
eqb-suc i j = eqb-both i j (suc i) (suc j) (λ e. ap suc e) (λ e. omega (arith, e))

and-false : (b : Bool) → (b && false) ≡ false
and-false true = refl
and-false false = refl

and-true : (b : Bool) → (b && true) ≡ b
and-true true = refl
and-true false = refl

-- a place and one more low bit
even-place : (e b : Bool) (i j : ℕ) → (e && eqb (bit b + 2 * i) (2 * j)) ≡ ((e && eqb i j) && not b)
even-place e false i j =
    ap (λ (t : Bool). e && t) (eqb-both i j (0 + 2 * i) (2 * j) (λ q. omega (arith, q)) (λ q. omega (arith, q))) ∙ sym (and-true (e && eqb i j))
even-place e true i j =
    ap (λ (t : Bool). e && t) (ne_eqb (1 + 2 * i) (2 * j) (λ q. omega (arith, q))) ∙ (and-false e ∙ sym (and-false (e && eqb i j)))

odd-place : (e b : Bool) (i j : ℕ) → (e && eqb (bit b + 2 * i) (suc (2 * j))) ≡ ((e && eqb i j) && b)
odd-place e true i j =
    ap (λ (t : Bool). e && t) (eqb-both i j (1 + 2 * i) (suc (2 * j)) (λ q. omega (arith, q)) (λ q. omega (arith, q))) ∙ sym (and-true (e && eqb i j))
odd-place e false i j =
    ap (λ (t : Bool). e && t) (ne_eqb (0 + 2 * i) (suc (2 * j)) (λ q. omega (arith, q))) ∙ (and-false e ∙ sym (and-false (e && eqb i j)))

-- each place holds where e does and the index names it
pub decoded-spots : (v : ℕ → Bool) (n : ℕ) (e : Lit) (bs : List Lit) (count : ℕ) → Meets v n (decoded n e bs count).defs
    → Spots v (λ j. lit_value v e && eqb (number v bs) j) (decoded n e bs count).outs
decoded-spots v n e [] count m = (sym (ap (λ (t : Bool). lit_value v e && t) (eq-eqb 0 0 refl) ∙ and-true (lit_value v e)), tt)
decoded-spots v n e (b ∷ bs) count m =
    let r = decoded n e bs (half_of count) in
    let s = doubled (n + length r.defs) b count r.outs in
    let p = meets-append v n r.defs s.defs m in
    let i = decoded-spots v n e bs (half_of count) p.0 in
    doubled-spots v (λ j. lit_value v e && eqb (number v bs) j) (λ j. lit_value v e && eqb (number v (b ∷ bs)) j) (n + length r.defs) b count r.outs
    (λ j. even-place (lit_value v e) (lit_value v b) (number v bs) j) (λ j. odd-place (lit_value v e) (lit_value v b) (number v bs) j) i p.1

doubled-long : (n : ℕ) (b : Lit) (count i : ℕ) (hs : List Lit) → i < count → i < 2 * length hs → i < length (doubled n b count hs).outs
doubled-long n b count i [] lt less = absurd (omega (arith, less))
doubled-long n b count i (x ∷ hs) lt less =
    let r = doubled (suc (suc n)) b (count - 2) hs in
    chosen {A = Made} (ltb 1 count)
    (record { defs = And x (negated b) ∷ And x b ∷ r.defs; outs = positive_of n ∷ positive_of (suc n) ∷ r.outs })
    (record { defs = And x (negated b) ∷ []; outs = positive_of n ∷ [] })
    (λ t. i < length t.outs)
    (λ t. more i lt less (ltb-true 1 count t) (λ j l g. doubled-long (suc (suc n)) b (count - 2) j hs l g))
    (λ t. let le : count ≤ 1 = ltb-false 1 count t in omega (arith, le, lt))
  where
    more : (i : ℕ) → i < count → i < 2 * suc (length hs) → 1 < count
        → ((j : ℕ) → j < count - 2 → j < 2 * length hs → j < length (doubled (suc (suc n)) b (count - 2) hs).outs)
        → i < suc (suc (length (doubled (suc (suc n)) b (count - 2) hs).outs))
    more zero lt less g ih = omega arith
    more (suc zero) lt less g ih = omega arith
    more (suc (suc i)) lt less g ih =
        let h = ih i (omega (arith, lt)) (omega (arith, less)) in
        omega (arith, h)

-- an index below the count names a place
pub decoded-long : (v : ℕ → Bool) (n : ℕ) (e : Lit) (bs : List Lit) (count : ℕ) → number v bs < count
    → number v bs < length (decoded n e bs count).outs
decoded-long v n e [] count lt = omega arith
decoded-long v n e (b ∷ bs) count lt =
    let r = decoded n e bs (half_of count) in
    let c = small (lit_value v b) in
    let h : number v bs < half_of count = omega (arith, lt, c) in
    let i = decoded-long v n e bs (half_of count) h in
    doubled-long (n + length r.defs) b count (number v (b ∷ bs)) r.outs lt (omega (arith, i, c))
  where
    small : (b : Bool) → bit b < 2
    small true = omega arith
    small false = omega arith

-- the choice among cells
pub picked-hit : (v f : ℕ → Bool) (n i : ℕ) (es : List Lit) (cs : List (List Lit)) (z : List Lit) → AllLong (length z) cs → Spots v f es
    → ((j : ℕ) → f j ≡ eqb i j) → i < length es → length es ≤ length cs → Meets v n (picked n es cs z).defs
    → number v (picked n es cs z).outs ≡ number v (cell_at cs i)
picked-hit v f n i [] cs z a s q lt le m = absurd (omega (arith, lt))
picked-hit v f n i (e ∷ es) [] z a s q lt le m = absurd (omega (arith, le))
picked-hit v f n i (e ∷ es) (c ∷ cs) z a s q lt le m =
    let r = picked n es cs z in
    let p = meets-append v n r.defs (selected (n + length r.defs) e c r.outs).defs m in
    let l : length c ≡ length r.outs = a.0 ∙ sym (picked-length n es cs z a.1) in
    selected-number v (n + length r.defs) e c r.outs l p.1 ∙ by i lt q
    (λ k g. picked-hit v (λ j. f (suc j)) n k es cs z a.1 s.1 g.1 g.0 (omega (arith, le)) p.0)
  where
    by : (i : ℕ) → i < length (e ∷ es) → ((j : ℕ) → f j ≡ eqb i j)
        → ((k : ℕ) → (k < length es) × ((j : ℕ) → f (suc j) ≡ eqb k j) → number v (picked n es cs z).outs ≡ number v (cell_at cs k))
        → cond (lit_value v e) (number v c) (number v (picked n es cs z).outs) ≡ number v (cell_at (c ∷ cs) i)
    by zero lt q ih = ap (λ (t : Bool). cond t (number v c) (number v (picked n es cs z).outs)) (s.0 ∙ (q 0 ∙ eq-eqb 0 0 refl))
    by (suc k) lt q ih =
        ap (λ (t : Bool). cond t (number v c) (number v (picked n es cs z).outs)) (s.0 ∙ (q 0 ∙ ne_eqb (suc k) 0 (λ g. omega (arith, g))))
        ∙ ih k (omega (arith, lt), λ j. q (suc j) ∙ eqb-suc k j)

pub picked-miss : (v f : ℕ → Bool) (n : ℕ) (es : List Lit) (cs : List (List Lit)) (z : List Lit) → AllLong (length z) cs → Spots v f es
    → ((j : ℕ) → j < length es → f j ≡ false) → Meets v n (picked n es cs z).defs
    → number v (picked n es cs z).outs ≡ number v z
picked-miss v f n [] cs z a s q m = refl
picked-miss v f n (e ∷ es) [] z a s q m = refl
picked-miss v f n (e ∷ es) (c ∷ cs) z a s q m =
    let r = picked n es cs z in
    let p = meets-append v n r.defs (selected (n + length r.defs) e c r.outs).defs m in
    let l : length c ≡ length r.outs = a.0 ∙ sym (picked-length n es cs z a.1) in
    selected-number v (n + length r.defs) e c r.outs l p.1
    ∙ (ap (λ (t : Bool). cond t (number v c) (number v r.outs)) (s.0 ∙ q 0 (omega arith))
    ∙ picked-miss v (λ j. f (suc j)) n es cs z a.1 s.1 (λ j lt. q (suc j) (omega (arith, lt))) p.0)
