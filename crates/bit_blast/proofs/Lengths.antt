-- How many literals each operation makes.
use Rattle.std.proofs.Common.{◌≡◌, ℕ, ◌+◌, ◌-◌, ◌*◌, ◌/◌, ◌≤◌, length, List, [], ◌∷◌, ◌++◌, arith, ap, sym, ◌∙◌, refl, suc, zero, ltb}
use Rattle.std.proofs.lemmas.Bool.{ltb-true}
use Rattle.prop.specs.declared.Lit.{Lit}
use Rattle.prop.specs.Logic.{negated, positive_of}
use Rattle.bit_gates.specs.declared.netlist.Def.TheVariants.{And}
use Rattle.bit_gates.specs.declared.shifters.Shift.{Shift}
use Rattle.bit_gates.specs.Products.{Made, product_of, masked}
use Rattle.bit_gates.specs.Quotients.{divided, none_of, quotient}
use Rattle.bit_gates.specs.Shifts.{stage, last_stage, stages, shift_of, top_of}
use Rattle.bit_gates.specs.Quotients.{none_of}
use Rattle.bit_gates.proofs.ProductLaws.{product-length, masked-length}
use Rattle.bit_gates.proofs.DivideLaws.{divided-length, selected-length}
use Rattle.bit_gates.proofs.Lengths.{stage-length, emptied-length}
use Rattle.bit_gates.proofs.Within.{chosen}
use Rattle.bit_words.specs.Words.{numeral_of, copies_of, ands, xors}
use Rattle.bit_words.specs.Folding.{folded, folded_made, renamed}
use Rattle.bit_words.specs.Elements.{half_of, doubled, decoded, picked, AllLong}
use Rattle.bit_words.proofs.WordPuts.{map-length}

pub folded-outs : (one : Lit) (n : ℕ) (m : Made) → length (folded_made one n m).outs ≡ length m.outs
folded-outs one n m = map-length (renamed n (folded one n n [] m.defs).subs) m.outs

pub numeral-length : (one : Lit) (w v : ℕ) → length (numeral_of one w v) ≡ w
numeral-length one zero v = refl
numeral-length one (suc w) v = ap suc (numeral-length one w (v / 2))

pub copies-length : (l : Lit) (n : ℕ) → length (copies_of l n) ≡ n
copies-length l zero = refl
copies-length l (suc n) = ap suc (copies-length l n)

pub ands-length : (n : ℕ) (xs ys : List Lit) → length xs ≡ length ys → length (ands n xs ys).outs ≡ length xs
ands-length n [] ys e = refl
ands-length n (x ∷ xs) [] e = absurd (omega arith)
ands-length n (x ∷ xs) (y ∷ ys) e = ap suc (ands-length (suc n) xs ys (omega arith))

pub xors-length : (n : ℕ) (xs ys : List Lit) → length xs ≡ length ys → length (xors n xs ys).outs ≡ length xs
xors-length n [] ys e = refl
xors-length n (x ∷ xs) [] e = absurd (omega arith)
xors-length n (x ∷ xs) (y ∷ ys) e = ap suc (xors-length (suc n) xs ys (omega arith))

pub product_of-length : (n : ℕ) (xs ys : List Lit) → 1 ≤ length xs → length xs ≡ length ys → length (product_of n xs ys).outs ≡ length xs
product_of-length n [] ys h e = absurd (omega arith)
product_of-length n (x ∷ xs) ys h e = product-length n x xs ys (omega arith) ∙ sym e

divided-quot : (n : ℕ) (one : Lit) (xs b : List Lit) → length (divided n one xs b).quot ≡ length xs
divided-quot n one [] b = refl
divided-quot n one (x ∷ xs) b = ap suc (divided-quot n one xs b)

pub quotient-quot : (n : ℕ) (xs b : List Lit) → length (quotient n xs b).quot ≡ length xs
quotient-quot n xs b =
    let one = positive_of n in
    let d = divided (suc n) one xs b in
    let k = suc n + length d.defs in
    let z = none_of k one b in
    masked-length (k + length z.defs) d.quot (negated z.out) ∙ divided-quot (suc n) one xs b

pub quotient-rest : (n : ℕ) (xs b : List Lit) → length (quotient n xs b).rest ≡ length b
quotient-rest n xs b =
    let one = positive_of n in
    let d = divided (suc n) one xs b in
    let k = suc n + length d.defs in
    let z = none_of k one b in
    let l = k + length z.defs in
    let q = masked l d.quot (negated z.out) in
    masked-length (l + length q.defs) d.rest (negated z.out) ∙ divided-length (suc n) one xs b

stages-length : (n : ℕ) (how : Shift) (z : Lit) (k : ℕ) (xs bs : List Lit) → length (stages n how z k xs bs).outs ≡ length xs
stages-length n how z k xs [] = refl
stages-length n how z k xs (b ∷ bs) =
    let s = stage n how z k b xs in
    let r = stages (n + length s.defs) how z (2 * k) s.outs bs in
    let c = none_of n (negated b) bs in
    chosen {A = Made} (ltb k (length xs)) (record { defs = s.defs ++ r.defs; outs = r.outs }) (last_stage n how z xs b bs)
    (λ m. length m.outs ≡ length xs)
    (λ t. let lt = ltb-true k (length xs) t in
    stages-length (n + length s.defs) how z (2 * k) s.outs bs ∙ stage-length n how z k b xs (omega (arith, lt)))
    (λ t. emptied-length (n + length c.defs) how z c.out xs)

pub shift_of-length : (n : ℕ) (how : Shift) (xs bs : List Lit) → length (shift_of n how xs bs).outs ≡ length xs
shift_of-length n how xs bs = stages-length n how (top_of xs) 1 xs bs

pub doubled-length : (n : ℕ) (b : Lit) (count : ℕ) (hs : List Lit) → length hs ≤ half_of count → length (doubled n b count hs).outs ≤ count
doubled-length n b count [] le = omega arith
doubled-length n b count (x ∷ hs) le =
    let r = doubled (suc (suc n)) b (count - 2) hs in
    let both : Made = record { defs = And x (negated b) ∷ And x b ∷ r.defs; outs = positive_of n ∷ positive_of (suc n) ∷ r.outs } in
    let low : Made = record { defs = And x (negated b) ∷ []; outs = positive_of n ∷ [] } in
    chosen {A = Made} (ltb 1 count) both low (λ m. length m.outs ≤ count)
    (λ t.
    let lt = ltb-true 1 count t in
    let i : length r.outs ≤ count - 2 = doubled-length (suc (suc n)) b (count - 2) hs (omega (arith, lt, le)) in
    omega (arith, i, lt))
    (λ t. omega (arith, le))

pub decoded-length : (n : ℕ) (e : Lit) (bs : List Lit) (count : ℕ) → 1 ≤ count → length (decoded n e bs count).outs ≤ count
decoded-length n e [] count h = h
decoded-length n e (b ∷ bs) count h =
    let r = decoded n e bs (half_of count) in
    doubled-length (n + length r.defs) b count r.outs (decoded-length n e bs (half_of count) (omega arith))

pub picked-length : (n : ℕ) (es : List Lit) (cs : List (List Lit)) (z : List Lit) → AllLong (length z) cs → length (picked n es cs z).outs ≡ length z
picked-length n [] cs z h = refl
picked-length n (e ∷ es) [] z h = refl
picked-length n (e ∷ es) (c ∷ cs) z h =
    let r = picked n es cs z in
    let i : length r.outs ≡ length z = picked-length n es cs z h.1 in
    selected-length (n + length r.defs) e c r.outs (h.0 ∙ sym i) ∙ h.0
