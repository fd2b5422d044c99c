-- How many literals a term, and a store at an index, add.
use Rattle.std.proofs.Common.{◌≡◌, ℕ, ◌+◌, ◌-◌, ◌*◌, ◌^◌, ◌≤◌, ◌<◌, length, List, [], ◌∷◌, ◌++◌, map, take, drop, arith, ap, sym, ◌∙◌, refl, suc, zero, true, false, subst, ltb, Option, Some, None, All, slice_index, max}
use Rattle.std.proofs.lemmas.List.{length-drop, length-take-le}
use Rattle.std.proofs.lemmas.Bool.{ltb-true}
use Rattle.prop.specs.declared.Lit.{Lit}
use Rattle.prop.specs.Logic.{negated, positive_of}
use Rattle.bit_gates.specs.declared.netlist.Def.TheVariants.{And}
use Rattle.bit_gates.specs.declared.shifters.Shift.{Shift}
use Rattle.bit_gates.specs.declared.shifters.Shift.TheVariants.{Left, Logical, Arithmetic}
use Rattle.bit_gates.specs.Products.{Made, product_of}
use Rattle.bit_gates.specs.Quotients.{selected}
use Rattle.bit_gates.specs.Shifts.{shift_of}
use Rattle.bit_gates.proofs.Within.{chosen}
use Rattle.bit_gates.proofs.Weights.{weights, weights-append, ripple-weights, product_of-weights, quotient-weights, less_of-weights, equal_of-weights, shift_of-weights, selected-weights}
use Rattle.bit_words.specs.Folding.{standing, folded_made}
use Rattle.bit_words.specs.Words.{spelled_of, ands, xors}
use Rattle.bit_words.specs.Elements.{half_of, doubled, decoded, picked, stored, AllLong}
use Rattle.bit_words.proofs.FoldingLaws.{folded-weights}
use Rattle.bit_words.proofs.WordPuts.{map-length}
use Rattle.bv_term.specs.declared.term.Term.{Term}
use Rattle.bv_term.specs.declared.term.Term.TheVariants.{Constant, Cell, Element, Add, Subtract, Multiply, Divide, Remainder, And, Or, Xor, Not, ShiftLeft, ShiftRight, ShiftSigned, Equal, Less, LessSigned, Select, ZeroExtend, SignExtend, Truncate, Bit}
use Rattle.bv_term.specs.WellFormed.{IsWidth, Fits}
use Rattle.bit_blast.specs.Gates.{add_word, subtract_word, divide_word, remainder_word, or_word, equal_word, less_word}
use Rattle.bit_blast.specs.Emission.{cell_at, no_cell, element_of, emission, AreWords}
use Rattle.bit_blast.specs.Held.{known_index, store_in}
use Rattle.bit_blast.proofs.Lengths.{decoded-length, picked-length, copies-length}
use Rattle.bit_blast.proofs.Ready.{Operands, words-alike, array-cells}
use Rattle.std.proofs.Math.Nat.{le-max_left, le-max_right}
use Rattle.std.proofs.lemmas.Nat.{mul-le}
use Rattle.blast_laws.specs.Bounds.{wide, plain, bound_of, store_bound}
use Rattle.blast_laws.proofs.Words.{none-is-some}
use Rattle.blast_laws.proofs.Terms.{only, first, second, third}

pub folded-small : (one : Lit) (n : ℕ) (m : Made) → weights (folded_made one n m).defs ≤ weights m.defs
folded-small one n m = folded-weights one n n [] m.defs

ands-weights : (n : ℕ) (xs ys : List Lit) → length xs ≡ length ys → weights (ands n xs ys).defs ≡ 7 * length xs
ands-weights n [] ys e = refl
ands-weights n (x ∷ xs) [] e = absurd (omega (arith, e))
ands-weights n (x ∷ xs) (y ∷ ys) e = let i = ands-weights (suc n) xs ys (omega (arith, e)) in omega (arith, i)

xors-weights : (n : ℕ) (xs ys : List Lit) → length xs ≡ length ys → weights (xors n xs ys).defs ≡ 12 * length xs
xors-weights n [] ys e = refl
xors-weights n (x ∷ xs) [] e = absurd (omega (arith, e))
xors-weights n (x ∷ xs) (y ∷ ys) e = let i = xors-weights (suc n) xs ys (omega (arith, e)) in omega (arith, i)

-- a place costs one conjunction
doubled-weights : (n : ℕ) (b : Lit) (count : ℕ) (hs : List Lit) → length hs ≤ half_of count → weights (doubled n b count hs).defs ≤ 7 * count
doubled-weights n b count [] le = omega arith
doubled-weights n b count (x ∷ hs) le =
    let r = doubled (suc (suc n)) b (count - 2) hs in
    let some : 1 ≤ count = omega (arith, le) in
    chosen {A = Made} (ltb 1 count)
    (record { defs = And x (negated b) ∷ And x b ∷ r.defs; outs = positive_of n ∷ positive_of (suc n) ∷ r.outs })
    (record { defs = And x (negated b) ∷ []; outs = positive_of n ∷ [] })
    (λ t. weights t.defs ≤ 7 * count)
    (λ t.
    let lt : 1 < count = ltb-true 1 count t in
    let i = doubled-weights (suc (suc n)) b (count - 2) hs (omega (arith, le, lt)) in
    omega (arith, i, lt))
    (λ t. omega (arith, some))

decoded-weights : (n : ℕ) (e : Lit) (bs : List Lit) (count : ℕ) → 1 ≤ count → weights (decoded n e bs count).defs ≤ 14 * count + 7 * length bs
decoded-weights n e [] count h = omega arith
decoded-weights n e (b ∷ bs) count h =
    let r = decoded n e bs (half_of count) in
    let s = doubled (n + length r.defs) b count r.outs in
    let g : 1 ≤ half_of count = omega (arith, h) in
    let i = decoded-weights n e bs (half_of count) g in
    let j = doubled-weights (n + length r.defs) b count r.outs (decoded-length n e bs (half_of count) g) in
    omega (arith, i, j, weights-append r.defs s.defs)

one-more : (k w r s : ℕ) → r ≤ 18 * (k * w) → s ≤ 18 * w → r + s ≤ 18 * (suc k * w)
one-more k w r s h g = omega (arith, h, g)

picked-weights : (n w : ℕ) (es : List Lit) (cs : List (List Lit)) (z : List Lit) → length z ≡ w → AllLong w cs
    → weights (picked n es cs z).defs ≤ 18 * (length cs * w)
picked-weights n w [] cs z e a = omega arith
picked-weights n w (p ∷ es) [] z e a = omega arith
picked-weights n w (p ∷ es) (c ∷ cs) z e a =
    let r = picked n es cs z in
    let s = selected (n + length r.defs) p c r.outs in
    let i = picked-weights n w es cs z e a.1 in
    let l : length c ≡ length r.outs = a.0 ∙ sym (picked-length n es cs z (subst (λ (t : ℕ). AllLong t cs) (sym e) a.1) ∙ e) in
    let j = selected-weights (n + length r.defs) p c r.outs l in
    let q = one-more (length cs) w (weights r.defs) (weights s.defs) i (omega (arith, j, a.0)) in
    omega (arith, q, weights-append r.defs s.defs)

stored-weights : (one : Lit) (n w : ℕ) (es : List Lit) (cs : List (List Lit)) (value : List Lit) → length value ≡ w → AllLong w cs
    → weights (stored one n es cs value).defs ≤ 18 * (length cs * w)
stored-weights one n w [] cs value e a = omega arith
stored-weights one n w (p ∷ es) [] value e a = omega arith
stored-weights one n w (p ∷ es) (c ∷ cs) value e a =
    let m = selected n p value c in
    let s = folded_made one n m in
    let r = stored one (n + length s.defs) es cs value in
    let i = stored-weights one (n + length s.defs) w es cs value e a.1 in
    let j = selected-weights n p value c (e ∙ sym a.0) in
    let k = folded-small one n m in
    let q = one-more (length cs) w (weights r.defs) (weights s.defs) i (omega (arith, j, k, e)) in
    omega (arith, q, weights-append s.defs r.defs)

-- the places of an index of b bits, and a store among m cells of w bits: a place costs two conjunctions, and each bit beyond them one
store-bounded : (m w b d p : ℕ) → d ≤ 14 * m + 7 * b → b ≤ 128 → p ≤ 18 * (m * w) → 1 ≤ w → d + p ≤ store_bound m w
store-bounded m w b d p h few g o =
    let t : m * 1 ≤ m * w = mul-le m 1 m w (omega arith) o in
    omega (arith, h, few, g, t, o)

-- the places of an index and a choice among m cells of w bits, with an index of b bits
places-bound : (m w b d p : ℕ) → d ≤ 14 * m + 7 * b → p ≤ 18 * (m * w) → 1 ≤ w → d + p ≤ 64 * (m * max w b) + 1024 * max w b
places-bound m w b d p h g o =
    let x : w ≤ max w b = le-max_left w b in
    let y : b ≤ max w b = le-max_right w b in
    let s : m * w ≤ m * max w b = mul-le m w m (max w b) (omega arith) x in
    let t : m * 1 ≤ m * max w b = mul-le m 1 m (max w b) (omega arith) (omega (arith, x, o)) in
    omega (arith, h, g, s, t, y)

element-few : (one : Lit) (n w : ℕ) (cs : List (List Lit)) (index : List Lit) (o : Option ℕ) → length (cell_at cs 0) ≡ w → AllLong w cs → 1 ≤ length cs → 1 ≤ w
    → weights (element_of one n cs index o).defs ≤ 64 * (length cs * max w (length index)) + 1024 * max w (length index)
element-few one n w cs index (Some k) e a some h = omega arith
element-few one n w cs index None e a some h =
    let d = folded_made one n (decoded n one index (length cs)) in
    let k = n + length d.defs in
    let z = no_cell one cs in
    let lz : length z ≡ w = copies-length (negated one) (length (cell_at cs 0)) ∙ e in
    let p = folded_made one k (picked k d.outs cs z) in
    let i = decoded-weights n one index (length cs) some in
    let j = picked-weights k w d.outs cs z lz a in
    let di = folded-small one n (decoded n one index (length cs)) in
    let pj = folded-small one k (picked k d.outs cs z) in
    let q = places-bound (length cs) w (length index) (weights d.defs) (weights p.defs) (omega (arith, i, di)) (omega (arith, j, pj)) h in
    omega (arith, q, weights-append d.defs p.defs)

-- a store at an index
pub store-few : (one : Lit) (n : ℕ) (cells : List (List Lit)) (f m : ℕ) (index value : List Lit) (o : Option ℕ) → o ≡ known_index m (spelled_of one index)
    → 1 ≤ length value → length index ≤ 128 → f + m ≤ length cells → AllLong (length value) (take m (drop f cells))
    → weights (store_in one n cells f m index value o).defs ≤ store_bound m (length value)
store-few one n cells f m index value (Some k) e h few l a = omega arith
store-few one n cells f zero index value None e h few l a = absurd (none-is-some 0 e)
store-few one n cells f (suc m) index value None e h few l a =
    let cs = take (suc m) (drop f cells) in
    let d = folded_made one n (decoded n one index (length cs)) in
    let s = stored one (n + length d.defs) d.outs cs value in
    let j = stored-weights one (n + length d.defs) (length value) d.outs cs value refl a in
    let di = folded-small one n (decoded n one index (length cs)) in
    let w = length value in
    let lc : length cs ≡ suc m = length-take-le (suc m) (drop f cells) (omega (arith, length-drop f cells, l)) in
    let i = decoded-weights n one index (length cs) (omega (arith, lc)) in
    let q = store-bounded (length cs) w (length index) (weights d.defs) (weights s.defs) (omega (arith, i, di)) few j h in
    let r : weights (d.defs ++ s.defs) ≤ store_bound (length cs) w = omega (arith, q, weights-append d.defs s.defs) in
    let t : store_bound (length cs) w ≡ store_bound (suc m) w = ap (λ (x : ℕ). store_bound x w) lc in
    omega (arith, r, t)

negated-length : (xs : List Lit) → length (map negated xs) ≡ length xs
negated-length xs = map-length negated xs

-- words of two operands
shift-few : (one : Lit) (n : ℕ) (how : Shift) (a b : List Lit) (w : ℕ) → AreWords a b → length a ≡ w → w ≤ 128
    → weights (folded_made one n (shift_of n how a b)).defs ≤ plain w
shift-few one n how a b w l e h =
    let i = shift_of-weights n how a b 7 l.1 (small7 (length a) (omega (arith, e, h))) in
    let k = folded-small one n (shift_of n how a b) in
    omega (arith, i, k, e)
  where
    small7 : (k : ℕ) → k ≤ 128 → k ≤ 2 ^ 7
    small7 k h = h

pub term-few : (one : Lit) (cells : List (List Lit)) (ls : ℕ → List Lit) (n : ℕ) (cw ws : List ℕ) (t : Term)
    → All IsWidth cw → All IsWidth ws → map length cells ≡ cw → Fits cw ws t → Operands ls ws t
    → weights (emission one cells ls n t).defs ≤ bound_of cw ws t
term-few one cells ls n cw ws (Constant w v) c a e f o = omega arith
term-few one cells ls n cw ws (Cell k) c a e f o = omega arith
term-few one cells ls n cw ws (Element b m i) c a e f o =
    let cs = take m (drop b cells) in
    let x = array-cells cells cw b m e f.0 in
    let lc : length cs ≡ m = length-take-le m (drop b cells) (omega (arith, length-drop b cells, x.0)) in
    let some : 1 ≤ length cs = omega (arith, lc, f.0.0) in
    let there : b < length cw = omega (arith, f.0.0, f.0.1) in
    let w : 1 ≤ slice_index cw b = (c b 0 there).0 in
    let r = element-few one n (slice_index cw b) cs (ls i.0) (spelled_of one (ls i.0)) x.1 x.2 some w in
    let M = max (slice_index cw b) (length (ls i.0)) in
    let s : 64 * (length cs * M) ≡ 64 * (m * M) = ap (λ (k : ℕ). 64 * (k * M)) lc in
    let q : weights (element_of one n cs (ls i.0) (spelled_of one (ls i.0))).defs ≤ 64 * (m * M) + 1024 * M = omega (arith, r, s) in
    subst (λ (k : ℕ). weights (element_of one n cs (ls i.0) (spelled_of one (ls i.0))).defs ≤ 64 * (m * max (slice_index cw b) k) + 1024 * max (slice_index cw b) k) (o i.0 (only i.0)) q
term-few one cells ls n cw ws (Add i j) c a e f o =
    let p = o i.0 (first i.0 (j.0 ∷ [])) in
    let l = words-alike ls ws i.0 j.0 a f p (o j.0 (second i.0 j.0 [])) in
    let k = folded-small one n (add_word one n (ls i.0) (ls j.0)) in
    let r = ripple-weights n (ls i.0) (ls j.0) (negated one) l.1 in
    omega (arith, k, r, p)
term-few one cells ls n cw ws (Subtract i j) c a e f o =
    let p = o i.0 (first i.0 (j.0 ∷ [])) in
    let l = words-alike ls ws i.0 j.0 a f p (o j.0 (second i.0 j.0 [])) in
    let k = folded-small one n (subtract_word one n (ls i.0) (ls j.0)) in
    let r = ripple-weights n (ls i.0) (map negated (ls j.0)) one (l.1 ∙ sym (negated-length (ls j.0))) in
    omega (arith, k, r, p)
term-few one cells ls n cw ws (Multiply i j) c a e f o =
    let p = o i.0 (first i.0 (j.0 ∷ [])) in
    let l = words-alike ls ws i.0 j.0 a f p (o j.0 (second i.0 j.0 [])) in
    let k = folded-small one n (product_of n (ls i.0) (ls j.0)) in
    let r = product_of-weights n (ls i.0) (ls j.0) l.1 in
    let q : weights (folded_made one n (product_of n (ls i.0) (ls j.0))).defs ≤ wide (length (ls i.0)) = omega (arith, k, r) in
    subst (λ (w : ℕ). weights (folded_made one n (product_of n (ls i.0) (ls j.0))).defs ≤ wide w) p q
term-few one cells ls n cw ws (Divide i j) c a e f o =
    let p = o i.0 (first i.0 (j.0 ∷ [])) in
    let l = words-alike ls ws i.0 j.0 a f p (o j.0 (second i.0 j.0 [])) in
    let k = folded-small one n (divide_word n (ls i.0) (ls j.0)) in
    let r = quotient-weights n (ls i.0) (ls j.0) l.1 in
    let q : weights (folded_made one n (divide_word n (ls i.0) (ls j.0))).defs ≤ wide (length (ls i.0)) = omega (arith, k, r, l.0) in
    subst (λ (w : ℕ). weights (folded_made one n (divide_word n (ls i.0) (ls j.0))).defs ≤ wide w) p q
term-few one cells ls n cw ws (Remainder i j) c a e f o =
    let p = o i.0 (first i.0 (j.0 ∷ [])) in
    let l = words-alike ls ws i.0 j.0 a f p (o j.0 (second i.0 j.0 [])) in
    let k = folded-small one n (remainder_word n (ls i.0) (ls j.0)) in
    let r = quotient-weights n (ls i.0) (ls j.0) l.1 in
    let q : weights (folded_made one n (remainder_word n (ls i.0) (ls j.0))).defs ≤ wide (length (ls i.0)) = omega (arith, k, r, l.0) in
    subst (λ (w : ℕ). weights (folded_made one n (remainder_word n (ls i.0) (ls j.0))).defs ≤ wide w) p q
term-few one cells ls n cw ws (And i j) c a e f o =
    let p = o i.0 (first i.0 (j.0 ∷ [])) in
    let l = words-alike ls ws i.0 j.0 a f p (o j.0 (second i.0 j.0 [])) in
    let k = folded-small one n (ands n (ls i.0) (ls j.0)) in
    let r = ands-weights n (ls i.0) (ls j.0) l.1 in
    omega (arith, k, r, p)
term-few one cells ls n cw ws (Or i j) c a e f o =
    let p = o i.0 (first i.0 (j.0 ∷ [])) in
    let l = words-alike ls ws i.0 j.0 a f p (o j.0 (second i.0 j.0 [])) in
    let k = folded-small one n (or_word n (ls i.0) (ls j.0)) in
    let x = negated-length (ls i.0) in
    let y = negated-length (ls j.0) in
    let r = ands-weights n (map negated (ls i.0)) (map negated (ls j.0)) (x ∙ (l.1 ∙ sym y)) in
    omega (arith, k, r, p, x)
term-few one cells ls n cw ws (Xor i j) c a e f o =
    let p = o i.0 (first i.0 (j.0 ∷ [])) in
    let l = words-alike ls ws i.0 j.0 a f p (o j.0 (second i.0 j.0 [])) in
    let k = folded-small one n (xors n (ls i.0) (ls j.0)) in
    let r = xors-weights n (ls i.0) (ls j.0) l.1 in
    omega (arith, k, r, p)
term-few one cells ls n cw ws (Not i) c a e f o = omega arith
term-few one cells ls n cw ws (ShiftLeft i j) c a e f o =
    let p = o i.0 (first i.0 (j.0 ∷ [])) in
    let l = words-alike ls ws i.0 j.0 a f p (o j.0 (second i.0 j.0 [])) in
    shift-few one n Left (ls i.0) (ls j.0) (slice_index ws i.0) l p (a i.0 0 f.0).1
term-few one cells ls n cw ws (ShiftRight i j) c a e f o =
    let p = o i.0 (first i.0 (j.0 ∷ [])) in
    let l = words-alike ls ws i.0 j.0 a f p (o j.0 (second i.0 j.0 [])) in
    shift-few one n Logical (ls i.0) (ls j.0) (slice_index ws i.0) l p (a i.0 0 f.0).1
term-few one cells ls n cw ws (ShiftSigned i j) c a e f o =
    let p = o i.0 (first i.0 (j.0 ∷ [])) in
    let l = words-alike ls ws i.0 j.0 a f p (o j.0 (second i.0 j.0 [])) in
    shift-few one n Arithmetic (ls i.0) (ls j.0) (slice_index ws i.0) l p (a i.0 0 f.0).1
term-few one cells ls n cw ws (Equal i j) c a e f o =
    let p = o i.0 (first i.0 (j.0 ∷ [])) in
    let l = words-alike ls ws i.0 j.0 a f p (o j.0 (second i.0 j.0 [])) in
    let k = folded-small one n (equal_word n (ls i.0) (ls j.0)) in
    let r = equal_of-weights n (ls i.0) (ls j.0) l.0 l.1 in
    omega (arith, k, r, p)
term-few one cells ls n cw ws (Less i j) c a e f o =
    let p = o i.0 (first i.0 (j.0 ∷ [])) in
    let l = words-alike ls ws i.0 j.0 a f p (o j.0 (second i.0 j.0 [])) in
    let k = folded-small one n (less_word n false (ls i.0) (ls j.0)) in
    let r = less_of-weights n false (ls i.0) (ls j.0) l.0 l.1 in
    omega (arith, k, r, p)
term-few one cells ls n cw ws (LessSigned i j) c a e f o =
    let p = o i.0 (first i.0 (j.0 ∷ [])) in
    let l = words-alike ls ws i.0 j.0 a f p (o j.0 (second i.0 j.0 [])) in
    let k = folded-small one n (less_word n true (ls i.0) (ls j.0)) in
    let r = less_of-weights n true (ls i.0) (ls j.0) l.0 l.1 in
    omega (arith, k, r, p)
term-few one cells ls n cw ws (Select i j k) c a e f o =
    let p = o j.0 (second i.0 j.0 (k.0 ∷ [])) in
    let q = o k.0 (third i.0 j.0 k.0) in
    let l = words-alike ls ws j.0 k.0 a (f.2.0, f.2.1, f.2.2) p q in
    let x = folded-small one n (selected n (standing (ls i.0) 0) (ls j.0) (ls k.0)) in
    let r = selected-weights n (standing (ls i.0) 0) (ls j.0) (ls k.0) l.1 in
    omega (arith, x, r, p)
term-few one cells ls n cw ws (ZeroExtend w i) c a e f o = omega arith
term-few one cells ls n cw ws (SignExtend w i) c a e f o = omega arith
term-few one cells ls n cw ws (Truncate w i) c a e f o = omega arith
term-few one cells ls n cw ws (Bit k i) c a e f o = omega arith

-- a bound depends on the widths of operands alone
pub bound-same : (cw us ws : List ℕ) (t : Term) (k : ℕ) → Fits cw us t → length us ≡ k → ((i : ℕ) → i < k → slice_index us i ≡ slice_index ws i)
    → bound_of cw us t ≡ bound_of cw ws t
bound-same cw us ws (Constant w v) k f e s = refl
bound-same cw us ws (Cell c) k f e s = refl
bound-same cw us ws (Element b m i) k f e s =
    ap (λ (w : ℕ). 64 * (m * max (slice_index cw b) w) + 1024 * max (slice_index cw b) w) (s i.0 (omega (arith, f.1, e)))
bound-same cw us ws (Add i j) k f e s = ap plain (s i.0 (omega (arith, f.0, e)))
bound-same cw us ws (Subtract i j) k f e s = ap plain (s i.0 (omega (arith, f.0, e)))
bound-same cw us ws (And i j) k f e s = ap plain (s i.0 (omega (arith, f.0, e)))
bound-same cw us ws (Or i j) k f e s = ap plain (s i.0 (omega (arith, f.0, e)))
bound-same cw us ws (Xor i j) k f e s = ap plain (s i.0 (omega (arith, f.0, e)))
bound-same cw us ws (ShiftLeft i j) k f e s = ap plain (s i.0 (omega (arith, f.0, e)))
bound-same cw us ws (ShiftRight i j) k f e s = ap plain (s i.0 (omega (arith, f.0, e)))
bound-same cw us ws (ShiftSigned i j) k f e s = ap plain (s i.0 (omega (arith, f.0, e)))
bound-same cw us ws (Equal i j) k f e s = ap plain (s i.0 (omega (arith, f.0, e)))
bound-same cw us ws (Less i j) k f e s = ap plain (s i.0 (omega (arith, f.0, e)))
bound-same cw us ws (LessSigned i j) k f e s = ap plain (s i.0 (omega (arith, f.0, e)))
bound-same cw us ws (Multiply i j) k f e s = ap wide (s i.0 (omega (arith, f.0, e)))
bound-same cw us ws (Divide i j) k f e s = ap wide (s i.0 (omega (arith, f.0, e)))
bound-same cw us ws (Remainder i j) k f e s = ap wide (s i.0 (omega (arith, f.0, e)))
bound-same cw us ws (Not i) k f e s = ap plain (s i.0 (omega (arith, f, e)))
bound-same cw us ws (Select i j l) k f e s = ap plain (s j.0 (omega (arith, f.2.0, e)))
bound-same cw us ws (ZeroExtend w i) k f e s = refl
bound-same cw us ws (SignExtend w i) k f e s = refl
bound-same cw us ws (Truncate w i) k f e s = refl
bound-same cw us ws (Bit b i) k f e s = refl
