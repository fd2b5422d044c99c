-- Each term of a cone is ready when its turn comes.
use Rattle.std.proofs.Common.{◌≡◌, ℕ, ◌+◌, ◌-◌, ◌≤◌, ◌<◌, length, List, [], ◌∷◌, ◌++◌, map, take, drop, arith, ap, sym, ◌∙◌, refl, suc, zero, Bool, true, false, ◌||◌, ltb, eqb, subst, All, slice_index, get_or}
use Rattle.std.specs.Prelude.{Option, Some, None}
use Rattle.std.proofs.lemmas.Bool.{eqb-true, eq-eqb, false≢true, ltb-true}
use Rattle.std.proofs.lemmas.List.{length-append, length-take-le}
use Rattle.prop.specs.declared.Lit.{Lit}
use Rattle.prop.specs.Logic.{negated}
use Rattle.prop.specs.Trues.{listed}
use Rattle.bit_gates.specs.Products.{product_of}
use Rattle.bit_gates.specs.Quotients.{selected}
use Rattle.bit_gates.specs.declared.shifters.Shift.TheVariants.{Left, Logical, Arithmetic}
use Rattle.bit_gates.specs.Shifts.{shift_of, top_of}
use Rattle.bit_gates.proofs.Within.{chosen}
use Rattle.bit_gates.proofs.AddLaws.{ripple-length}
use Rattle.bit_gates.proofs.DivideLaws.{selected-length}
use Rattle.bit_words.specs.Folding.{standing, folded_made}
use Rattle.bit_words.specs.Words.{copies_of, spelled_of, ands, xors}
use Rattle.bit_words.specs.Elements.{decoded, picked, AllLong}
use Rattle.bit_words.proofs.WordPuts.{map-length}
use Rattle.bv_term.specs.declared.term.Term.{Term}
use Rattle.bv_term.specs.declared.term.Term.TheVariants.{Constant, Cell, Element, Add, Subtract, Multiply, Divide, Remainder, And, Or, Xor, Not, ShiftLeft, ShiftRight, ShiftSigned, Equal, Less, LessSigned, Select, ZeroExtend, SignExtend, Truncate, Bit}
use Rattle.bv_term.specs.WellFormed.{Table, IsTable, IsWidth, Fits, AllFit, width_in, widths_after, widths}
use Rattle.bv_term.proofs.Growing.{widths-of}
use Rattle.bv_term.proofs.Staying.{widths-keep}
use Rattle.bit_blast.specs.Cone.{uses_of, numbers}
use Rattle.bit_blast.specs.Gates.{add_word, subtract_word, divide_word, remainder_word, or_word, equal_word, less_word, extended_to}
use Rattle.bit_blast.specs.Emission.{cell_at, no_cell, element_of, emission, AreWords, IsReady, term_at}
use Rattle.bit_blast.proofs.Lengths.{folded-outs, numeral-length, copies-length, ands-length, xors-length, product_of-length, quotient-quot, quotient-rest, shift_of-length, picked-length}

-- the operands of a term have their widths
abbrev pub Operands : (ℕ → List Lit) → List ℕ → Term → Type 0
Operands ls ws t = (i : ℕ) → listed (numbers (uses_of t)) i ≡ true → length (ls i) ≡ slice_index ws i

one-of : (a : ℕ) → listed (a ∷ []) a ≡ true
one-of a = ap (λ b. b || false) (eq-eqb a a refl)

first-of : (a b : ℕ) → listed (a ∷ b ∷ []) a ≡ true
first-of a b = ap (λ t. t || listed (b ∷ []) a) (eq-eqb a a refl)

or-true : (b : Bool) → (b || true) ≡ true
or-true true = refl
or-true false = refl

second-of : (a b : ℕ) → listed (a ∷ b ∷ []) b ≡ true
second-of a b = ap (λ t. eqb a b || t) (one-of b) ∙ or-true (eqb a b)

pub words-alike : (ls : ℕ → List Lit) (ws : List ℕ) (i j : ℕ) → All IsWidth ws → (i < length ws) × (j < length ws) × (slice_index ws i ≡ slice_index ws j)
    → length (ls i) ≡ slice_index ws i → length (ls j) ≡ slice_index ws j → AreWords (ls i) (ls j)
words-alike ls ws i j a f g h =
    let w : 1 ≤ slice_index ws i = (a i 0 f.0).0 in
    (omega (arith, w, g), g ∙ (f.2 ∙ sym h))

cell-length : (cells : List (List Lit)) (k : ℕ) → length (cell_at cells k) ≡ slice_index (map length cells) k
cell-length [] k = refl
cell-length (c ∷ cs) zero = refl
cell-length (c ∷ cs) (suc k) = cell-length cs k

all_long-take : (w m : ℕ) (cs : List (List Lit)) → ((k : ℕ) → k < m → k < length cs → slice_index (map length cs) k ≡ w) → AllLong w (take m cs)
all_long-take w zero cs h = tt
all_long-take w (suc m) [] h = tt
all_long-take w (suc m) (c ∷ cs) h = (h 0 (omega arith) (omega arith), all_long-take w m cs (λ k lt less. h (suc k) (omega (arith, lt)) (omega (arith, less))))

drop-index : (xs : List ℕ) (f k : ℕ) → slice_index (drop f xs) k ≡ slice_index xs (f + k)
drop-index xs zero k = ap (slice_index xs) e
  where
    e : k ≡ 0 + k
    e = omega arith
drop-index [] (suc f) k = refl
drop-index (x ∷ xs) (suc f) k = drop-index xs f k ∙ ap (slice_index (x ∷ xs)) e
  where
    e : suc (f + k) ≡ suc f + k
    e = omega arith

map-drop-length : (cs : List (List Lit)) (f : ℕ) → map length (drop f cs) ≡ drop f (map length cs)
map-drop-length cs zero = refl
map-drop-length [] (suc f) = refl
map-drop-length (c ∷ cs) (suc f) = map-drop-length cs f

take-first : (cs : List (List Lit)) (m : ℕ) → 1 ≤ m → cell_at (take m cs) 0 ≡ cell_at cs 0
take-first [] (suc m) h = refl
take-first (c ∷ cs) (suc m) h = refl
take-first cs zero h = absurd (omega arith)

-- the cells of an array: there, and of one width
pub array-cells : (cells : List (List Lit)) (ws : List ℕ) (f m : ℕ) → map length cells ≡ ws
    → (1 ≤ m) × (f + m ≤ length ws) × ((k : ℕ) → k < m → slice_index ws (f + k) ≡ slice_index ws f)
    → (f + m ≤ length cells) × (length (cell_at (take m (drop f cells)) 0) ≡ slice_index ws f)
    × AllLong (slice_index ws f) (take m (drop f cells))
array-cells cells ws f m e h =
    let l : length (map length cells) ≡ length cells = map-length length cells in
    let lw : length ws ≡ length cells = sym (ap length e) ∙ l in
    let at : (k : ℕ) → slice_index (map length (drop f cells)) k ≡ slice_index ws (f + k)
    = λ k. ap (λ (t : List ℕ). slice_index t k) (map-drop-length cells f) ∙ (drop-index (map length cells) f k ∙ ap (λ (t : List ℕ). slice_index t (f + k)) e) in
    let z : f + 0 ≡ f = omega arith in
    let first : length (cell_at (take m (drop f cells)) 0) ≡ slice_index ws f
    = ap length (take-first (drop f cells) m h.0) ∙ (cell-length (drop f cells) 0 ∙ (at 0 ∙ ap (slice_index ws) z)) in
    (omega (arith, h.1, lw), first, all_long-take (slice_index ws f) m (drop f cells) (λ k lt less. at k ∙ h.2 k lt))

element-length : (one : Lit) (n w : ℕ) (cs : List (List Lit)) (index : List Lit) (o : Option ℕ) → length (cell_at cs 0) ≡ w → AllLong w cs
    → length (element_of one n cs index o).outs ≡ w
element-length one n w cs index (Some k) e h =
    chosen {A = List Lit} (ltb k (length cs)) (cell_at cs k) (no_cell one cs) (λ l. length l ≡ w)
    (λ t. at cs k h (ltb-less k (length cs) t))
    (λ t. copies-length (negated one) (length (cell_at cs 0)) ∙ e)
  where
    ltb-less : (a b : ℕ) → ltb a b ≡ true → a < b
    ltb-less a b t = ltb-true a b t

    at : (cs : List (List Lit)) (k : ℕ) → AllLong w cs → k < length cs → length (cell_at cs k) ≡ w
    at [] k h lt = absurd (omega arith)
    at (c ∷ cs) zero h lt = h.0
    at (c ∷ cs) (suc k) h lt = at cs k h.1 (omega arith)
element-length one n w cs index None e h =
    let d = folded_made one n (decoded n one index (length cs)) in
    let z = no_cell one cs in
    let zl : length z ≡ w = copies-length (negated one) (length (cell_at cs 0)) ∙ e in
    let p = picked (n + length d.defs) d.outs cs z in
    folded-outs one (n + length d.defs) p ∙ (picked-length (n + length d.defs) d.outs cs z (subst (λ (t : ℕ). AllLong t cs) (sym zl) h) ∙ zl)

lengths-more : (w : ℕ) (l : Lit) (a : List Lit) → length a ≤ w → length (extended_to w l a) ≡ w
lengths-more w l a h =
    let e = length-append a (copies_of l (w - length a)) in
    let c = copies-length l (w - length a) in
    omega (arith, e, c, h)

-- a well-formed term is ready over operands that have their widths, and has its own width
pub term-ready : (one : Lit) (cells : List (List Lit)) (ls : ℕ → List Lit) (n : ℕ) (cw ws : List ℕ) (t : Term)
    → All IsWidth cw → All IsWidth ws → map length cells ≡ cw → Fits cw ws t → Operands ls ws t
    → IsReady cells ls t × (length (emission one cells ls n t).outs ≡ width_in cw ws t)
term-ready one cells ls n cw ws (Constant w v) c a e f o = (tt, numeral-length one w v)
term-ready one cells ls n cw ws (Cell k) c a e f o =
    let l : length (map length cells) ≡ length cells = map-length length cells in
    let g : length (map length cells) ≡ length cw = ap length e in
    (omega (arith, f, l, g), cell-length cells k ∙ ap (λ (t : List ℕ). slice_index t k) e)
term-ready one cells ls n cw ws (Element first m i) c a e f o =
    let q = array-cells cells cw first m e f.0 in
    let cs = take m (drop first cells) in
    let oi = o i.0 (one-of i.0) in
    let wi : slice_index ws i.0 ≤ 128 = (a i.0 0 f.1).1 in (
      (f.0.0, q.0, omega (arith, oi, wi), subst (λ (t : ℕ). AllLong t cs) (sym q.1) q.2),
      element-length one n (slice_index cw first) cs (ls i.0) (spelled_of one (ls i.0)) q.1 q.2,
    )
term-ready one cells ls n cw ws (Add i j) c a e f o =
    let oi = o i.0 (first-of i.0 j.0) in
    let q = words-alike ls ws i.0 j.0 a f oi (o j.0 (second-of i.0 j.0)) in
    (q, folded-outs one n (add_word one n (ls i.0) (ls j.0)) ∙ (ripple-length n (ls i.0) (ls j.0) (negated one) q.1 ∙ oi))
term-ready one cells ls n cw ws (Subtract i j) c a e f o =
    let oi = o i.0 (first-of i.0 j.0) in
    let q = words-alike ls ws i.0 j.0 a f oi (o j.0 (second-of i.0 j.0)) in
    (q, folded-outs one n (subtract_word one n (ls i.0) (ls j.0)) ∙ (ripple-length n (ls i.0) (map negated (ls j.0)) one (q.1 ∙ sym (map-length negated (ls j.0))) ∙ oi))
term-ready one cells ls n cw ws (Multiply i j) c a e f o =
    let oi = o i.0 (first-of i.0 j.0) in
    let q = words-alike ls ws i.0 j.0 a f oi (o j.0 (second-of i.0 j.0)) in
    (q, folded-outs one n (product_of n (ls i.0) (ls j.0)) ∙ (product_of-length n (ls i.0) (ls j.0) q.0 q.1 ∙ oi))
term-ready one cells ls n cw ws (Divide i j) c a e f o =
    let oi = o i.0 (first-of i.0 j.0) in
    let q = words-alike ls ws i.0 j.0 a f oi (o j.0 (second-of i.0 j.0)) in
    (q, folded-outs one n (divide_word n (ls i.0) (ls j.0)) ∙ (quotient-quot n (ls i.0) (ls j.0) ∙ oi))
term-ready one cells ls n cw ws (Remainder i j) c a e f o =
    let oi = o i.0 (first-of i.0 j.0) in
    let q = words-alike ls ws i.0 j.0 a f oi (o j.0 (second-of i.0 j.0)) in
    (q, folded-outs one n (remainder_word n (ls i.0) (ls j.0)) ∙ (quotient-rest n (ls i.0) (ls j.0) ∙ (sym q.1 ∙ oi)))
term-ready one cells ls n cw ws (And i j) c a e f o =
    let oi = o i.0 (first-of i.0 j.0) in
    let q = words-alike ls ws i.0 j.0 a f oi (o j.0 (second-of i.0 j.0)) in
    (q, folded-outs one n (ands n (ls i.0) (ls j.0)) ∙ (ands-length n (ls i.0) (ls j.0) q.1 ∙ oi))
term-ready one cells ls n cw ws (Or i j) c a e f o =
    let oi = o i.0 (first-of i.0 j.0) in
    let q = words-alike ls ws i.0 j.0 a f oi (o j.0 (second-of i.0 j.0)) in
    let l = map-length negated (ls i.0) in
    let m = ands n (map negated (ls i.0)) (map negated (ls j.0)) in (
      q,
      folded-outs one n (or_word n (ls i.0) (ls j.0)) ∙ (map-length negated m.outs
          ∙ (ands-length n (map negated (ls i.0)) (map negated (ls j.0)) (l ∙ (q.1 ∙ sym (map-length negated (ls j.0)))) ∙ (l ∙ oi))),
    )
term-ready one cells ls n cw ws (Xor i j) c a e f o =
    let oi = o i.0 (first-of i.0 j.0) in
    let q = words-alike ls ws i.0 j.0 a f oi (o j.0 (second-of i.0 j.0)) in
    (q, folded-outs one n (xors n (ls i.0) (ls j.0)) ∙ (xors-length n (ls i.0) (ls j.0) q.1 ∙ oi))
term-ready one cells ls n cw ws (Not i) c a e f o =
    let oi = o i.0 (one-of i.0) in
    let w : 1 ≤ slice_index ws i.0 = (a i.0 0 f).0 in
    (omega (arith, oi, w), map-length negated (ls i.0) ∙ oi)
term-ready one cells ls n cw ws (ShiftLeft i j) c a e f o =
    let oi = o i.0 (first-of i.0 j.0) in
    let q = words-alike ls ws i.0 j.0 a f oi (o j.0 (second-of i.0 j.0)) in
    (q, folded-outs one n (shift_of n Left (ls i.0) (ls j.0)) ∙ (shift_of-length n Left (ls i.0) (ls j.0) ∙ oi))
term-ready one cells ls n cw ws (ShiftRight i j) c a e f o =
    let oi = o i.0 (first-of i.0 j.0) in
    let q = words-alike ls ws i.0 j.0 a f oi (o j.0 (second-of i.0 j.0)) in
    (q, folded-outs one n (shift_of n Logical (ls i.0) (ls j.0)) ∙ (shift_of-length n Logical (ls i.0) (ls j.0) ∙ oi))
term-ready one cells ls n cw ws (ShiftSigned i j) c a e f o =
    let oi = o i.0 (first-of i.0 j.0) in
    let q = words-alike ls ws i.0 j.0 a f oi (o j.0 (second-of i.0 j.0)) in
    (q, folded-outs one n (shift_of n Arithmetic (ls i.0) (ls j.0)) ∙ (shift_of-length n Arithmetic (ls i.0) (ls j.0) ∙ oi))
term-ready one cells ls n cw ws (Equal i j) c a e f o =
    (words-alike ls ws i.0 j.0 a f (o i.0 (first-of i.0 j.0)) (o j.0 (second-of i.0 j.0)), folded-outs one n (equal_word n (ls i.0) (ls j.0)))
term-ready one cells ls n cw ws (Less i j) c a e f o =
    (words-alike ls ws i.0 j.0 a f (o i.0 (first-of i.0 j.0)) (o j.0 (second-of i.0 j.0)), folded-outs one n (less_word n false (ls i.0) (ls j.0)))
term-ready one cells ls n cw ws (LessSigned i j) c a e f o =
    (words-alike ls ws i.0 j.0 a f (o i.0 (first-of i.0 j.0)) (o j.0 (second-of i.0 j.0)), folded-outs one n (less_word n true (ls i.0) (ls j.0)))
term-ready one cells ls n cw ws (Select i j k) c a e f o =
    let oi = o i.0 (ap (λ t. t || listed (j.0 ∷ k.0 ∷ []) i.0) (eq-eqb i.0 i.0 refl)) in
    let oj = o j.0 (ap (λ t. eqb i.0 j.0 || t) (first-of j.0 k.0) ∙ or-true (eqb i.0 j.0)) in
    let ok = o k.0 (ap (λ t. eqb i.0 k.0 || t) (second-of j.0 k.0) ∙ or-true (eqb i.0 k.0)) in
    let q = words-alike ls ws j.0 k.0 a f.2 oj ok in
    ((omega (arith, oi, f.1), q), folded-outs one n (selected n (standing (ls i.0) 0) (ls j.0) (ls k.0)) ∙ (selected-length n (standing (ls i.0) 0) (ls j.0) (ls k.0) q.1 ∙ oj))
term-ready one cells ls n cw ws (ZeroExtend w i) c a e f o =
    let oi = o i.0 (one-of i.0) in
    let le : length (ls i.0) ≤ w = omega (arith, oi, f.2) in
    (le, lengths-more w (negated one) (ls i.0) le)
term-ready one cells ls n cw ws (SignExtend w i) c a e f o =
    let oi = o i.0 (one-of i.0) in
    let le : length (ls i.0) ≤ w = omega (arith, oi, f.2) in
    let g : 1 ≤ slice_index ws i.0 = (a i.0 0 f.0).0 in
    ((omega (arith, oi, g), le), lengths-more w (top_of (ls i.0)) (ls i.0) le)
term-ready one cells ls n cw ws (Truncate w i) c a e f o =
    let oi = o i.0 (one-of i.0) in
    let le : w ≤ length (ls i.0) = omega (arith, oi, f.2) in
    (le, length-take-le w (ls i.0) le)
term-ready one cells ls n cw ws (Bit k i) c a e f o =
    let oi = o i.0 (one-of i.0) in
    (omega (arith, oi, f.1), refl)

-- operands of a well-formed term are earlier terms
two-below : (n a b i : ℕ) → a < n → b < n → listed (a ∷ b ∷ []) i ≡ true → i < n
two-below n a b i p q h = by (eqb a i) refl h
  where
    one : (t : Bool) → t ≡ eqb b i → (t || false) ≡ true → i < n
    one true e g = subst (λ (k : ℕ). k < n) (eqb-true b i (sym e)) q
    one false e g = absurd (false≢true g)

    by : (t : Bool) → t ≡ eqb a i → (t || listed (b ∷ []) i) ≡ true → i < n
    by true e g = subst (λ (k : ℕ). k < n) (eqb-true a i (sym e)) p
    by false e g = one (eqb b i) refl g

one-below : (n a i : ℕ) → a < n → listed (a ∷ []) i ≡ true → i < n
one-below n a i p h = two-below n a a i p p (more (eqb a i) h)
  where
    more : (t : Bool) → (t || false) ≡ true → (t || (t || false)) ≡ true
    more true e = refl
    more false e = e

pub operand-below : (cw ws : List ℕ) (t : Term) (i : ℕ) → Fits cw ws t → listed (numbers (uses_of t)) i ≡ true → i < length ws
operand-below cw ws (Constant w v) i f h = absurd (false≢true h)
operand-below cw ws (Cell c) i f h = absurd (false≢true h)
operand-below cw ws (Element first m a) i f h = one-below (length ws) a.0 i f.1 h
operand-below cw ws (Add a b) i f h = two-below (length ws) a.0 b.0 i f.0 f.1 h
operand-below cw ws (Subtract a b) i f h = two-below (length ws) a.0 b.0 i f.0 f.1 h
operand-below cw ws (Multiply a b) i f h = two-below (length ws) a.0 b.0 i f.0 f.1 h
operand-below cw ws (Divide a b) i f h = two-below (length ws) a.0 b.0 i f.0 f.1 h
operand-below cw ws (Remainder a b) i f h = two-below (length ws) a.0 b.0 i f.0 f.1 h
operand-below cw ws (And a b) i f h = two-below (length ws) a.0 b.0 i f.0 f.1 h
operand-below cw ws (Or a b) i f h = two-below (length ws) a.0 b.0 i f.0 f.1 h
operand-below cw ws (Xor a b) i f h = two-below (length ws) a.0 b.0 i f.0 f.1 h
operand-below cw ws (Not a) i f h = one-below (length ws) a.0 i f h
operand-below cw ws (ShiftLeft a b) i f h = two-below (length ws) a.0 b.0 i f.0 f.1 h
operand-below cw ws (ShiftRight a b) i f h = two-below (length ws) a.0 b.0 i f.0 f.1 h
operand-below cw ws (ShiftSigned a b) i f h = two-below (length ws) a.0 b.0 i f.0 f.1 h
operand-below cw ws (Equal a b) i f h = two-below (length ws) a.0 b.0 i f.0 f.1 h
operand-below cw ws (Less a b) i f h = two-below (length ws) a.0 b.0 i f.0 f.1 h
operand-below cw ws (LessSigned a b) i f h = two-below (length ws) a.0 b.0 i f.0 f.1 h
operand-below cw ws (Select a b d) i f h = by (eqb a.0 i) refl h
  where
    by : (t : Bool) → t ≡ eqb a.0 i → (t || listed (b.0 ∷ d.0 ∷ []) i) ≡ true → i < length ws
    by true e g = subst (λ (k : ℕ). k < length ws) (eqb-true a.0 i (sym e)) f.0
    by false e g = two-below (length ws) b.0 d.0 i f.2.0 f.2.1 g
operand-below cw ws (ZeroExtend w a) i f h = one-below (length ws) a.0 i f.0 h
operand-below cw ws (SignExtend w a) i f h = one-below (length ws) a.0 i f.0 h
operand-below cw ws (Truncate w a) i f h = one-below (length ws) a.0 i f.0 h
operand-below cw ws (Bit k a) i f h = one-below (length ws) a.0 i f.0 h

-- a term of a table over the widths before it
pub record FitsAt (cw all ws : List ℕ) (t : Term) (k : ℕ) : Type 0 where
  pub fits : Fits cw ws t
  pub many : length ws ≡ k
  pub same : (i : ℕ) → i < k → slice_index ws i ≡ slice_index all i
  pub width : slice_index all k ≡ width_in cw ws t

index-last : (xs : List ℕ) (w : ℕ) → slice_index (xs ++ w ∷ []) (length xs) ≡ w
index-last [] w = refl
index-last (x ∷ xs) w = index-last xs w

fits-from : (cw ws : List ℕ) (ts : List Term) (k : ℕ) → AllFit cw ws ts → k < length ts
    → (us : List ℕ) × FitsAt cw (widths_after cw ws ts) us (term_at ts k) (length ws + k)
fits-from cw ws [] k f lt = absurd (omega arith)
fits-from cw ws (t ∷ ts) zero f lt =
    let w = width_in cw ws t in
    let l : length (ws ++ w ∷ []) ≡ length ws + 1 = length-append ws (w ∷ []) in
    let e : length ws + 0 ≡ length ws = omega arith in
    let at : slice_index (widths_after cw (ws ++ w ∷ []) ts) (length ws) ≡ w
    = widths-keep cw (ws ++ w ∷ []) ts (length ws) (omega (arith, l)) ∙ index-last ws w in (
      ws,
      record {
        fits = f.0;
        many = sym e;
        same = λ i less. sym (widths-keep cw ws (t ∷ ts) i (omega (arith, less, e)));
        width = ap (slice_index (widths_after cw (ws ++ w ∷ []) ts)) e ∙ at;
      },
    )
fits-from cw ws (t ∷ ts) (suc k) f lt =
    let w = width_in cw ws t in
    let l : length (ws ++ w ∷ []) ≡ length ws + 1 = length-append ws (w ∷ []) in
    let r = fits-from cw (ws ++ w ∷ []) ts k f.1 (omega arith) in
    let e : length (ws ++ w ∷ []) + k ≡ length ws + suc k = omega (arith, l) in
    (r.0, subst (λ (i : ℕ). FitsAt cw (widths_after cw (ws ++ w ∷ []) ts) r.0 (term_at ts k) i) e r.1)

pub fits-at : (table : Table) (k : ℕ) → IsTable table → k < length table.terms
    → (us : List ℕ) × FitsAt table.cells (widths table) us (term_at table.terms k) k
fits-at table k h lt =
    let r = fits-from table.cells [] table.terms k h.terms lt in
    let e : 0 + k ≡ k = omega arith in
    (r.0, subst (λ (i : ℕ). FitsAt table.cells (widths table) r.0 (term_at table.terms k) i) e r.1)

in-range : (xs : List ℕ) (k d : ℕ) → k < length xs → get_or xs k d ≡ slice_index xs k
in-range [] k d lt = absurd (omega arith)
in-range (x ∷ xs) zero d lt = refl
in-range (x ∷ xs) (suc k) d lt = in-range xs k d (omega arith)

pub widths-at : (table : Table) (k : ℕ) (us : List ℕ) (t : Term) → IsTable table → k < length table.terms
    → FitsAt table.cells (widths table) us t k → All IsWidth us
widths-at table k us t h lt f j d less =
    let a = widths-of table h in
    let e : get_or us j d ≡ slice_index (widths table) j = in-range us j d less ∙ f.same j (omega (arith, less, f.many)) in
    subst IsWidth (sym e) (a.1 j 0 (omega (arith, less, f.many, a.0, lt)))
