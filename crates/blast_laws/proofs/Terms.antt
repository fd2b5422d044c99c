-- One term: what it adds owes its scope, and says that its literals spell its value.
use Rattle.std.proofs.Common.{◌≡◌, ℕ, ◌+◌, ◌%◌, ◌^◌, ◌≤◌, ◌<◌, length, List, [], ◌∷◌, ◌++◌, map, take, drop, arith, ap, sym, ◌∙◌, refl, Bool, true, false, ◌||◌, cond, subst, ltb, eqb, nat_lt, ◌==◌, if◌then◌else◌, Option, Some, None, All, slice_index, bit_and, bit_or, bit_xor}
use Rattle.std.proofs.lemmas.List.{length-append, length-drop, length-take-le}
use Rattle.std.proofs.lemmas.Bool.{eq-eqb, ltb-true}
use Rattle.prop.specs.declared.Lit.{Lit}
use Rattle.prop.specs.Logic.{negated, lit_value, LitsBelow}
use Rattle.prop.specs.Trues.{listed}
use Rattle.bit_gates.specs.declared.shifters.Shift.TheVariants.{Left, Logical, Arithmetic}
use Rattle.bit_gates.specs.Net.{Meets, bit, number}
use Rattle.bit_gates.specs.Products.{Made, product_of}
use Rattle.bit_gates.specs.Quotients.{selected}
use Rattle.bit_gates.specs.Shifts.{shift_of, top_of}
use Rattle.bit_gates.proofs.Within.{LitsOk, NetOk, ok-more, lits-more, net_ok-append, chosen}
use Rattle.bit_gates.proofs.Within as within
use Rattle.bit_words.specs.Folding.{standing, folded_made}
use Rattle.bit_words.specs.Words.{given, numeral_of, spelled_of, ands, xors}
use Rattle.bit_words.specs.Elements.{decoded, picked, AllLong}
use Rattle.bit_words.proofs.FoldingLaws.{Inside, fits_inside}
use Rattle.bv_term.specs.declared.term.Term.{Term}
use Rattle.bv_term.specs.declared.term.TermId.{TermId}
use Rattle.bv_term.specs.declared.term.Term.TheVariants.{Constant, Cell, Element, Add, Subtract, Multiply, Divide, Remainder, And, Or, Xor, Not, ShiftLeft, ShiftRight, ShiftSigned, Equal, Less, LessSigned, Select, ZeroExtend, SignExtend, Truncate, Bit}
use Rattle.bv_term.specs.Numbers.{sum_in, difference_in, product_in, quotient_of, remainder_of, complement_in, left_in, right_in, signed_right_in, raised, truth, sign_extended, bit_of}
use Rattle.bv_term.specs.WellFormed.{IsWidth, Fits}
use Rattle.bv_term.specs.Values.{value_in}
use Rattle.bit_blast.specs.Cone.{uses_of, numbers}
use Rattle.bit_blast.specs.Gates.{add_word, subtract_word, divide_word, remainder_word, or_word, equal_word, less_word, extended_to}
use Rattle.bit_blast.specs.Emission.{cell_at, no_cell, element_of, emission, AreWords, IsReady}
use Rattle.bit_blast.proofs.Ready.{Operands, words-alike, array-cells}
use Rattle.blast_laws.proofs.Words.{numeral-number, take-number, standing-number, number-one}
use Rattle.blast_laws.specs.Reading.{IsOwn}
use Rattle.blast_laws.proofs.Owes.{IsLow, Owes, Below, AllOk, all-more, all-take, all-drop, all-at, all-range, folded-owes, inside, inside-one, inside-all, lits-numeral, lits-copies, lits-negated, lit-standing, add-owes, subtract-owes, multiply-owes, divide-owes, remainder-owes, ands-owes, xors-owes, or-owes, shift-owes, equal-owes, less-owes, selected-owes, decoded-owes, picked-owes, extended-owes, lits-take, lit-top}
use Rattle.blast_laws.proofs.Operations.{sum-told, difference-told, product-told, quotient-told, remainder-told, ands-told, ors-told, xors-told, nots-told, left-told, right-told, signed-told, equal-told, less-told, less_signed-told, choice-told, zeros-told, signs-told}
use Rattle.blast_laws.proofs.Elements.{element-told}
use Rattle.blast_laws.proofs.Stores.{cell-spelled, cell-range}

given-owes : (P : ℕ → ℕ → Type 0) (lo : ℕ) → within.Fits P lo → (n : ℕ) (outs : List Lit) → lo ≤ n → LitsOk P n outs → Owes P n (given outs)
given-owes P lo f n outs le h = (tt, lits-more P lo f n (n + 0) outs le (omega arith) h)

-- a folded word of two operands
both-owe : (P : ℕ → ℕ → Type 0) (lo : ℕ) → within.Fits P lo → IsLow P → (one : Lit) (n : ℕ) (a b : List Lit) (m : Made) → lo ≤ n → P n one.var → LitsOk P n a → LitsOk P n b
    → (LitsOk (Inside P n n) n a → LitsOk (Inside P n n) n b → Owes (Inside P n n) n m) → Owes P n (folded_made one n m)
both-owe P lo f low one n a b m le o ha hb g = folded-owes P lo f one n m le o (g (inside P low n a ha) (inside P low n b hb))

element-owes : (P : ℕ → ℕ → Type 0) (lo : ℕ) → within.Fits P lo → IsLow P → (one : Lit) (n : ℕ) (cs : List (List Lit)) (index : List Lit) (s : Option ℕ) → lo ≤ n → P n one.var
    → AllOk P n cs → LitsOk P n index → Owes P n (element_of one n cs index s)
element-owes P lo f low one n cs index (Some k) le o hc hi =
    given-owes P lo f n (cond (ltb k (length cs)) (cell_at cs k) (no_cell one cs)) le
    (chosen {A = List Lit} (ltb k (length cs)) (cell_at cs k) (no_cell one cs) (LitsOk P n) (λ t. all-at P n k cs hc)
    (λ t. lits-copies P n (negated one) (length (cell_at cs 0)) o))
element-owes P lo f low one n cs index None le o hc hi =
    let d = folded_made one n (decoded n one index (length cs)) in
    let k = n + length d.defs in
    let z = no_cell one cs in
    let p = folded_made one k (picked k d.outs cs z) in
    let i : Owes P n d = folded-owes P lo f one n (decoded n one index (length cs)) le o
    (decoded-owes (Inside P n n) n (fits_inside P n n) n one index (length cs) (omega arith) (inside-one P low n one o) (inside P low n index hi)) in
    let nk : n ≤ k = omega arith in
    let lk : lo ≤ k = omega (arith, le) in
    let ok : P k one.var = ok-more P lo f n k one.var le nk o in
    let zk : LitsOk P k z = lits-copies P k (negated one) (length (cell_at cs 0)) ok in
    let ck : AllOk P k cs = all-more P lo f n k cs le nk hc in
    let j : Owes P k p = folded-owes P lo f one k (picked k d.outs cs z) lk ok
    (picked-owes (Inside P k k) k (fits_inside P k k) k d.outs cs z (omega arith) (inside P low k d.outs i.1) (inside-all P low k cs ck) (inside P low k z zk)) in
    let l : k + length p.defs ≡ n + length (d.defs ++ p.defs) = omega (arith, length-append d.defs p.defs) in
    (net_ok-append P n d.defs p.defs i.0 j.0, subst (λ (t : ℕ). LitsOk P t p.outs) l j.1)

-- each cell that a term reads by itself may be spoken of
abbrev pub OwnOk : (ℕ → ℕ → Type 0) → ℕ → List (List Lit) → Term → Type 0
OwnOk P n cells t = (c : ℕ) → IsOwn t c → LitsOk P n (cell_at cells c)

-- what a term adds speaks of the constant, its own cells and its operands
pub term-owes : (P : ℕ → ℕ → Type 0) (lo : ℕ) → within.Fits P lo → IsLow P → (one : Lit) (cells : List (List Lit)) (ls : ℕ → List Lit) (n : ℕ) (t : Term) → lo ≤ n
    → P n one.var → OwnOk P n cells t → ((i : ℕ) → LitsOk P n (ls i)) → IsReady cells ls t → Owes P n (emission one cells ls n t)
term-owes P lo f low one cells ls n (Constant w v) le o hc hl q = given-owes P lo f n (numeral_of one w v) le (lits-numeral P n one w v o)
term-owes P lo f low one cells ls n (Cell c) le o hc hl q = given-owes P lo f n (cell_at cells c) le (hc c refl)
term-owes P lo f low one cells ls n (Element b m i) le o hc hl q =
    element-owes P lo f low one n (take m (drop b cells)) (ls i.0) (spelled_of one (ls i.0)) le o (all-range P n cells b m (λ c least most. hc c (least, most))) (hl i.0)
term-owes P lo f low one cells ls n (Add i j) le o hc hl q =
    both-owe P lo f low one n (ls i.0) (ls j.0) (add_word one n (ls i.0) (ls j.0)) le o (hl i.0) (hl j.0)
    (λ a b. add-owes (Inside P n n) n (fits_inside P n n) one n (ls i.0) (ls j.0) (omega arith) (inside-one P low n one o) a b)
term-owes P lo f low one cells ls n (Subtract i j) le o hc hl q =
    both-owe P lo f low one n (ls i.0) (ls j.0) (subtract_word one n (ls i.0) (ls j.0)) le o (hl i.0) (hl j.0)
    (λ a b. subtract-owes (Inside P n n) n (fits_inside P n n) one n (ls i.0) (ls j.0) (omega arith) (inside-one P low n one o) a b)
term-owes P lo f low one cells ls n (Multiply i j) le o hc hl q =
    both-owe P lo f low one n (ls i.0) (ls j.0) (product_of n (ls i.0) (ls j.0)) le o (hl i.0) (hl j.0)
    (λ a b. multiply-owes (Inside P n n) n (fits_inside P n n) n (ls i.0) (ls j.0) (omega arith) a b)
term-owes P lo f low one cells ls n (Divide i j) le o hc hl q =
    both-owe P lo f low one n (ls i.0) (ls j.0) (divide_word n (ls i.0) (ls j.0)) le o (hl i.0) (hl j.0)
    (λ a b. divide-owes (Inside P n n) n (fits_inside P n n) n (ls i.0) (ls j.0) (omega arith) a b)
term-owes P lo f low one cells ls n (Remainder i j) le o hc hl q =
    both-owe P lo f low one n (ls i.0) (ls j.0) (remainder_word n (ls i.0) (ls j.0)) le o (hl i.0) (hl j.0)
    (λ a b. remainder-owes (Inside P n n) n (fits_inside P n n) n (ls i.0) (ls j.0) (omega arith) a b)
term-owes P lo f low one cells ls n (And i j) le o hc hl q =
    both-owe P lo f low one n (ls i.0) (ls j.0) (ands n (ls i.0) (ls j.0)) le o (hl i.0) (hl j.0)
    (λ a b. ands-owes (Inside P n n) n (fits_inside P n n) n (ls i.0) (ls j.0) (omega arith) a b)
term-owes P lo f low one cells ls n (Or i j) le o hc hl q =
    both-owe P lo f low one n (ls i.0) (ls j.0) (or_word n (ls i.0) (ls j.0)) le o (hl i.0) (hl j.0)
    (λ a b. or-owes (Inside P n n) n (fits_inside P n n) n (ls i.0) (ls j.0) (omega arith) a b)
term-owes P lo f low one cells ls n (Xor i j) le o hc hl q =
    both-owe P lo f low one n (ls i.0) (ls j.0) (xors n (ls i.0) (ls j.0)) le o (hl i.0) (hl j.0)
    (λ a b. xors-owes (Inside P n n) n (fits_inside P n n) n (ls i.0) (ls j.0) (omega arith) a b)
term-owes P lo f low one cells ls n (Not i) le o hc hl q = given-owes P lo f n (map negated (ls i.0)) le (lits-negated P n (ls i.0) (hl i.0))
term-owes P lo f low one cells ls n (ShiftLeft i j) le o hc hl q =
    both-owe P lo f low one n (ls i.0) (ls j.0) (shift_of n Left (ls i.0) (ls j.0)) le o (hl i.0) (hl j.0)
    (λ a b. shift-owes (Inside P n n) n (fits_inside P n n) n Left (ls i.0) (ls j.0) (omega arith) q.0 a b)
term-owes P lo f low one cells ls n (ShiftRight i j) le o hc hl q =
    both-owe P lo f low one n (ls i.0) (ls j.0) (shift_of n Logical (ls i.0) (ls j.0)) le o (hl i.0) (hl j.0)
    (λ a b. shift-owes (Inside P n n) n (fits_inside P n n) n Logical (ls i.0) (ls j.0) (omega arith) q.0 a b)
term-owes P lo f low one cells ls n (ShiftSigned i j) le o hc hl q =
    both-owe P lo f low one n (ls i.0) (ls j.0) (shift_of n Arithmetic (ls i.0) (ls j.0)) le o (hl i.0) (hl j.0)
    (λ a b. shift-owes (Inside P n n) n (fits_inside P n n) n Arithmetic (ls i.0) (ls j.0) (omega arith) q.0 a b)
term-owes P lo f low one cells ls n (Equal i j) le o hc hl q =
    both-owe P lo f low one n (ls i.0) (ls j.0) (equal_word n (ls i.0) (ls j.0)) le o (hl i.0) (hl j.0)
    (λ a b. equal-owes (Inside P n n) n (fits_inside P n n) n (ls i.0) (ls j.0) (omega arith) q a b)
term-owes P lo f low one cells ls n (Less i j) le o hc hl q =
    both-owe P lo f low one n (ls i.0) (ls j.0) (less_word n false (ls i.0) (ls j.0)) le o (hl i.0) (hl j.0)
    (λ a b. less-owes (Inside P n n) n (fits_inside P n n) n false (ls i.0) (ls j.0) (omega arith) q a b)
term-owes P lo f low one cells ls n (LessSigned i j) le o hc hl q =
    both-owe P lo f low one n (ls i.0) (ls j.0) (less_word n true (ls i.0) (ls j.0)) le o (hl i.0) (hl j.0)
    (λ a b. less-owes (Inside P n n) n (fits_inside P n n) n true (ls i.0) (ls j.0) (omega arith) q a b)
term-owes P lo f low one cells ls n (Select i j k) le o hc hl q =
    let c : P n (standing (ls i.0) 0).var = lit-standing P n 0 (ls i.0) (omega (arith, q.0)) (hl i.0) in
    both-owe P lo f low one n (ls j.0) (ls k.0) (selected n (standing (ls i.0) 0) (ls j.0) (ls k.0)) le o (hl j.0) (hl k.0)
    (λ a b. selected-owes (Inside P n n) n (fits_inside P n n) n (standing (ls i.0) 0) (ls j.0) (ls k.0) (omega arith) (inside-one P low n (standing (ls i.0) 0) c) a b)
term-owes P lo f low one cells ls n (ZeroExtend w i) le o hc hl q =
    given-owes P lo f n (extended_to w (negated one) (ls i.0)) le (extended-owes P n w (negated one) (ls i.0) o (hl i.0))
term-owes P lo f low one cells ls n (SignExtend w i) le o hc hl q =
    given-owes P lo f n (extended_to w (top_of (ls i.0)) (ls i.0)) le (extended-owes P n w (top_of (ls i.0)) (ls i.0) (lit-top P n (ls i.0) q.0 (hl i.0)) (hl i.0))
term-owes P lo f low one cells ls n (Truncate w i) le o hc hl q = given-owes P lo f n (take w (ls i.0)) le (lits-take P n w (ls i.0) (hl i.0))
term-owes P lo f low one cells ls n (Bit k i) le o hc hl q = given-owes P lo f n (standing (ls i.0) k ∷ []) le (lit-standing P n k (ls i.0) q (hl i.0), tt)

-- operands
abbrev pub Spell : (ℕ → Bool) → (ℕ → List Lit) → List ℕ → Term → Type 0
Spell v ls vs t = (i : ℕ) → listed (numbers (uses_of t)) i ≡ true → number v (ls i) ≡ slice_index vs i

or-true : (b : Bool) → (b || true) ≡ true
or-true true = refl
or-true false = refl

pub only : (a : ℕ) → listed (a ∷ []) a ≡ true
only a = ap (λ b. b || false) (eq-eqb a a refl)

pub first : (a : ℕ) (bs : List ℕ) → listed (a ∷ bs) a ≡ true
first a bs = ap (λ b. b || listed bs a) (eq-eqb a a refl)

pub second : (a b : ℕ) (cs : List ℕ) → listed (a ∷ b ∷ cs) b ≡ true
second a b cs = ap (λ t. eqb a b || t) (first b cs) ∙ or-true (eqb a b)

pub third : (a b c : ℕ) → listed (a ∷ b ∷ c ∷ []) c ≡ true
third a b c = ap (λ t. eqb a c || t) (second b c []) ∙ or-true (eqb a c)

-- the same operation on equal numbers
same-two : (f : ℕ → ℕ → ℕ) (a b x y : ℕ) → a ≡ x → b ≡ y → f a b ≡ f x y
same-two f a b x y p q = ap (λ (t : ℕ). f t b) p ∙ ap (λ (t : ℕ). f x t) q

same-three : (f : ℕ → ℕ → ℕ → ℕ) (w a b u x y : ℕ) → w ≡ u → a ≡ x → b ≡ y → f w a b ≡ f u x y
same-three f w a b u x y o p q = ap (λ (t : ℕ). f t a b) o ∙ same-two (f u) a b x y p q

-- what is known where a term is blasted
pub record Ground (v : ℕ → Bool) (one : Lit) (cells : List (List Lit)) (ls : ℕ → List Lit) (n : ℕ) (cw ws vs : List ℕ) (t : Term) : Type 0 where
  pub holds : lit_value v one ≡ true
  pub below : one.var < n
  pub inside : AllOk Below n cells
  pub lits : (i : ℕ) → LitsBelow n (ls i)
  pub sizes : All IsWidth ws
  pub long : map length cells ≡ cw
  pub fits : Fits cw ws t
  pub widths : Operands ls ws t
  pub spell : Spell v ls vs t

one-bit : (v : ℕ → Bool) (ls : List Lit) → length ls ≡ 1 → number v ls ≡ bit (lit_value v (standing ls 0))
one-bit v [] e = absurd (omega (arith, e))
one-bit v (l ∷ []) e = number-one v l
one-bit v (l ∷ k ∷ ls) e = absurd (omega (arith, e))

choice-by : (t : Bool) (c a b : ℕ) → c ≡ bit t → cond t a b ≡ (if c == 1 then a else b)
choice-by true c a b e = ap (λ (x : ℕ). if x == 1 then a else b) (sym e)
choice-by false c a b e = ap (λ (x : ℕ). if x == 1 then a else b) (sym e)

element-value : (v : ℕ → Bool) (one : Lit) (cells : List (List Lit)) (ls : ℕ → List Lit) (n : ℕ) (cw ws vs : List ℕ) (b m : ℕ) (i : TermId)
    → Ground v one cells ls n cw ws vs (Element b m i) → Meets v n (emission one cells ls n (Element b m i)).defs
    → number v (emission one cells ls n (Element b m i)).outs ≡ value_in (map (number v) cells) ws vs (Element b m i)
element-value v one cells ls n cw ws vs b m i g x =
    let cs = take m (drop b cells) in
    let a = array-cells cells cw b m g.long g.fits.0 in
    let lc : length cs ≡ m = length-take-le m (drop b cells) (omega (arith, length-drop b cells, a.0)) in
    let al : AllLong (length (cell_at cs 0)) cs = subst (λ (t : ℕ). AllLong t cs) (sym a.1) a.2 in
    let some : 1 ≤ length cs = omega (arith, lc, g.fits.0.0) in
    let q : number v (ls i.0) ≡ slice_index vs i.0 = g.spell i.0 (only i.0) in
    let r = element-told v one n cs (ls i.0) (spelled_of one (ls i.0)) refl g.holds g.below (g.lits i.0) (all-take Below n m (drop b cells) (all-drop Below n b cells g.inside)) some al x in
    r ∙ (ap (λ (t : ℕ). if nat_lt (number v (ls i.0)) t then number v (cell_at cs (number v (ls i.0))) else 0) lc
    ∙ (at (nat_lt (number v (ls i.0)) m) refl ∙ ap (λ (t : ℕ). if nat_lt t m then slice_index (map (number v) cells) (b + t) else 0) q))
  where
    at : (t : Bool) → nat_lt (number v (ls i.0)) m ≡ t
        → (if t then number v (cell_at (take m (drop b cells)) (number v (ls i.0))) else 0) ≡ (if t then slice_index (map (number v) cells) (b + number v (ls i.0)) else 0)
    at true e = ap (number v) (cell-range cells b m (number v (ls i.0)) (ltb-true (number v (ls i.0)) m e)) ∙ cell-spelled v cells (b + number v (ls i.0))
    at false e = refl

-- two operands of one width
pair-words : (v : ℕ → Bool) (one : Lit) (cells : List (List Lit)) (ls : ℕ → List Lit) (n : ℕ) (cw ws vs : List ℕ) (t : Term) (i j : ℕ)
    → Ground v one cells ls n cw ws vs t → (i < length ws) × (j < length ws) × (slice_index ws i ≡ slice_index ws j)
    → listed (numbers (uses_of t)) i ≡ true → listed (numbers (uses_of t)) j ≡ true → AreWords (ls i) (ls j)
pair-words v one cells ls n cw ws vs t i j g f p q = words-alike ls ws i j g.sizes f (g.widths i p) (g.widths j q)

-- where a term's definitions are met its literals spell its value
pub term-told : (v : ℕ → Bool) (one : Lit) (cells : List (List Lit)) (ls : ℕ → List Lit) (n : ℕ) (cw ws vs : List ℕ) (t : Term)
    → Ground v one cells ls n cw ws vs t → Meets v n (emission one cells ls n t).defs
    → number v (emission one cells ls n t).outs ≡ value_in (map (number v) cells) ws vs t
term-told v one cells ls n cw ws vs (Constant w c) g x = numeral-number v one w c g.holds g.fits.1
term-told v one cells ls n cw ws vs (Cell c) g x = cell-spelled v cells c
term-told v one cells ls n cw ws vs (Element b m i) g x = element-value v one cells ls n cw ws vs b m i g x
term-told v one cells ls n cw ws vs (Add i j) g x =
    let p = first i.0 (j.0 ∷ []) in
    let q = second i.0 j.0 [] in
    let l = pair-words v one cells ls n cw ws vs (Add i j) i.0 j.0 g g.fits p q in
    sum-told v one n (ls i.0) (ls j.0) g.holds g.below (g.lits i.0) (g.lits j.0) l x
    ∙ same-three (λ (w a b : ℕ). sum_in w a b) (length (ls i.0)) (number v (ls i.0)) (number v (ls j.0)) (slice_index ws i.0) (slice_index vs i.0) (slice_index vs j.0) (g.widths i.0 p) (g.spell i.0 p) (g.spell j.0 q)
term-told v one cells ls n cw ws vs (Subtract i j) g x =
    let p = first i.0 (j.0 ∷ []) in
    let q = second i.0 j.0 [] in
    let l = pair-words v one cells ls n cw ws vs (Subtract i j) i.0 j.0 g g.fits p q in
    difference-told v one n (ls i.0) (ls j.0) g.holds g.below (g.lits i.0) (g.lits j.0) l x
    ∙ same-three (λ (w a b : ℕ). difference_in w a b) (length (ls i.0)) (number v (ls i.0)) (number v (ls j.0)) (slice_index ws i.0) (slice_index vs i.0) (slice_index vs j.0) (g.widths i.0 p) (g.spell i.0 p) (g.spell j.0 q)
term-told v one cells ls n cw ws vs (Multiply i j) g x =
    let p = first i.0 (j.0 ∷ []) in
    let q = second i.0 j.0 [] in
    let l = pair-words v one cells ls n cw ws vs (Multiply i j) i.0 j.0 g g.fits p q in
    product-told v one n (ls i.0) (ls j.0) g.holds (g.lits i.0) (g.lits j.0) l x
    ∙ same-three (λ (w a b : ℕ). product_in w a b) (length (ls i.0)) (number v (ls i.0)) (number v (ls j.0)) (slice_index ws i.0) (slice_index vs i.0) (slice_index vs j.0) (g.widths i.0 p) (g.spell i.0 p) (g.spell j.0 q)
term-told v one cells ls n cw ws vs (Divide i j) g x =
    let p = first i.0 (j.0 ∷ []) in
    let q = second i.0 j.0 [] in
    quotient-told v one n (ls i.0) (ls j.0) g.holds (g.lits i.0) (g.lits j.0) x
    ∙ same-two (λ (a b : ℕ). quotient_of a b) (number v (ls i.0)) (number v (ls j.0)) (slice_index vs i.0) (slice_index vs j.0) (g.spell i.0 p) (g.spell j.0 q)
term-told v one cells ls n cw ws vs (Remainder i j) g x =
    let p = first i.0 (j.0 ∷ []) in
    let q = second i.0 j.0 [] in
    remainder-told v one n (ls i.0) (ls j.0) g.holds (g.lits i.0) (g.lits j.0) x
    ∙ same-two (λ (a b : ℕ). remainder_of a b) (number v (ls i.0)) (number v (ls j.0)) (slice_index vs i.0) (slice_index vs j.0) (g.spell i.0 p) (g.spell j.0 q)
term-told v one cells ls n cw ws vs (And i j) g x =
    let p = first i.0 (j.0 ∷ []) in
    let q = second i.0 j.0 [] in
    let l = pair-words v one cells ls n cw ws vs (And i j) i.0 j.0 g g.fits p q in
    ands-told v one n (ls i.0) (ls j.0) g.holds (g.lits i.0) (g.lits j.0) l x
    ∙ same-two (λ (a b : ℕ). bit_and a b) (number v (ls i.0)) (number v (ls j.0)) (slice_index vs i.0) (slice_index vs j.0) (g.spell i.0 p) (g.spell j.0 q)
term-told v one cells ls n cw ws vs (Or i j) g x =
    let p = first i.0 (j.0 ∷ []) in
    let q = second i.0 j.0 [] in
    let l = pair-words v one cells ls n cw ws vs (Or i j) i.0 j.0 g g.fits p q in
    ors-told v one n (ls i.0) (ls j.0) g.holds (g.lits i.0) (g.lits j.0) l x
    ∙ same-two (λ (a b : ℕ). bit_or a b) (number v (ls i.0)) (number v (ls j.0)) (slice_index vs i.0) (slice_index vs j.0) (g.spell i.0 p) (g.spell j.0 q)
term-told v one cells ls n cw ws vs (Xor i j) g x =
    let p = first i.0 (j.0 ∷ []) in
    let q = second i.0 j.0 [] in
    let l = pair-words v one cells ls n cw ws vs (Xor i j) i.0 j.0 g g.fits p q in
    xors-told v one n (ls i.0) (ls j.0) g.holds (g.lits i.0) (g.lits j.0) l x
    ∙ same-two (λ (a b : ℕ). bit_xor a b) (number v (ls i.0)) (number v (ls j.0)) (slice_index vs i.0) (slice_index vs j.0) (g.spell i.0 p) (g.spell j.0 q)
term-told v one cells ls n cw ws vs (Not i) g x =
    let p = only i.0 in
    nots-told v (ls i.0)
    ∙ same-two (λ (w a : ℕ). complement_in w a) (length (ls i.0)) (number v (ls i.0)) (slice_index ws i.0) (slice_index vs i.0) (g.widths i.0 p) (g.spell i.0 p)
term-told v one cells ls n cw ws vs (ShiftLeft i j) g x =
    let p = first i.0 (j.0 ∷ []) in
    let q = second i.0 j.0 [] in
    let l = pair-words v one cells ls n cw ws vs (ShiftLeft i j) i.0 j.0 g g.fits p q in
    left-told v one n (ls i.0) (ls j.0) g.holds (g.lits i.0) (g.lits j.0) l x
    ∙ same-three (λ (w a b : ℕ). left_in w a b) (length (ls i.0)) (number v (ls i.0)) (number v (ls j.0)) (slice_index ws i.0) (slice_index vs i.0) (slice_index vs j.0) (g.widths i.0 p) (g.spell i.0 p) (g.spell j.0 q)
term-told v one cells ls n cw ws vs (ShiftRight i j) g x =
    let p = first i.0 (j.0 ∷ []) in
    let q = second i.0 j.0 [] in
    let l = pair-words v one cells ls n cw ws vs (ShiftRight i j) i.0 j.0 g g.fits p q in
    right-told v one n (ls i.0) (ls j.0) g.holds (g.lits i.0) (g.lits j.0) l x
    ∙ same-three (λ (w a b : ℕ). right_in w a b) (length (ls i.0)) (number v (ls i.0)) (number v (ls j.0)) (slice_index ws i.0) (slice_index vs i.0) (slice_index vs j.0) (g.widths i.0 p) (g.spell i.0 p) (g.spell j.0 q)
term-told v one cells ls n cw ws vs (ShiftSigned i j) g x =
    let p = first i.0 (j.0 ∷ []) in
    let q = second i.0 j.0 [] in
    let l = pair-words v one cells ls n cw ws vs (ShiftSigned i j) i.0 j.0 g g.fits p q in
    signed-told v one n (ls i.0) (ls j.0) g.holds (g.lits i.0) (g.lits j.0) l x
    ∙ same-three (λ (w a b : ℕ). signed_right_in w a b) (length (ls i.0)) (number v (ls i.0)) (number v (ls j.0)) (slice_index ws i.0) (slice_index vs i.0) (slice_index vs j.0) (g.widths i.0 p) (g.spell i.0 p) (g.spell j.0 q)
term-told v one cells ls n cw ws vs (Equal i j) g x =
    let p = first i.0 (j.0 ∷ []) in
    let q = second i.0 j.0 [] in
    let l = pair-words v one cells ls n cw ws vs (Equal i j) i.0 j.0 g g.fits p q in
    equal-told v one n (ls i.0) (ls j.0) g.holds (g.lits i.0) (g.lits j.0) l x
    ∙ same-two (λ (a b : ℕ). truth (a == b)) (number v (ls i.0)) (number v (ls j.0)) (slice_index vs i.0) (slice_index vs j.0) (g.spell i.0 p) (g.spell j.0 q)
term-told v one cells ls n cw ws vs (Less i j) g x =
    let p = first i.0 (j.0 ∷ []) in
    let q = second i.0 j.0 [] in
    let l = pair-words v one cells ls n cw ws vs (Less i j) i.0 j.0 g g.fits p q in
    less-told v one n (ls i.0) (ls j.0) g.holds (g.lits i.0) (g.lits j.0) l x
    ∙ same-two (λ (a b : ℕ). truth (nat_lt a b)) (number v (ls i.0)) (number v (ls j.0)) (slice_index vs i.0) (slice_index vs j.0) (g.spell i.0 p) (g.spell j.0 q)
term-told v one cells ls n cw ws vs (LessSigned i j) g x =
    let p = first i.0 (j.0 ∷ []) in
    let q = second i.0 j.0 [] in
    let l = pair-words v one cells ls n cw ws vs (LessSigned i j) i.0 j.0 g g.fits p q in
    less_signed-told v one n (ls i.0) (ls j.0) g.holds (g.lits i.0) (g.lits j.0) l x
    ∙ same-three (λ (w a b : ℕ). truth (nat_lt (raised w a) (raised w b))) (length (ls i.0)) (number v (ls i.0)) (number v (ls j.0)) (slice_index ws i.0) (slice_index vs i.0) (slice_index vs j.0) (g.widths i.0 p) (g.spell i.0 p) (g.spell j.0 q)
term-told v one cells ls n cw ws vs (Select i j k) g x =
    let p = first i.0 (j.0 ∷ k.0 ∷ []) in
    let q = second i.0 j.0 (k.0 ∷ []) in
    let r = third i.0 j.0 k.0 in
    let l = pair-words v one cells ls n cw ws vs (Select i j k) j.0 k.0 g (g.fits.2.0, g.fits.2.1, g.fits.2.2) q r in
    let w : length (ls i.0) ≡ 1 = g.widths i.0 p ∙ g.fits.1 in
    let c : number v (ls i.0) ≡ bit (lit_value v (standing (ls i.0) 0)) = one-bit v (ls i.0) w in
    choice-told v one n (standing (ls i.0) 0) (ls j.0) (ls k.0) g.holds (standing-below n (ls i.0) w (g.lits i.0)) (g.lits j.0) (g.lits k.0) l.1 x
    ∙ (choice-by (lit_value v (standing (ls i.0) 0)) (number v (ls i.0)) (number v (ls j.0)) (number v (ls k.0)) c
    ∙ same-three (λ (c a b : ℕ). if c == 1 then a else b) (number v (ls i.0)) (number v (ls j.0)) (number v (ls k.0)) (slice_index vs i.0) (slice_index vs j.0) (slice_index vs k.0) (g.spell i.0 p) (g.spell j.0 q) (g.spell k.0 r))
  where
    standing-below : (n : ℕ) (ls : List Lit) → length ls ≡ 1 → LitsBelow n ls → (standing ls 0).var < n
    standing-below n [] e h = absurd (omega (arith, e))
    standing-below n (l ∷ ls) e h = h.0
term-told v one cells ls n cw ws vs (ZeroExtend w i) g x =
    let p = only i.0 in
    zeros-told v one w (ls i.0) g.holds ∙ g.spell i.0 p
term-told v one cells ls n cw ws vs (SignExtend w i) g x =
    let p = only i.0 in
    let e : length (ls i.0) ≡ slice_index ws i.0 = g.widths i.0 p in
    let s : 1 ≤ slice_index ws i.0 = (g.sizes i.0 0 g.fits.0).0 in
    signs-told v w (ls i.0) (omega (arith, e, s)) (omega (arith, e, g.fits.2))
    ∙ same-two (λ (k a : ℕ). sign_extended k w a) (length (ls i.0)) (number v (ls i.0)) (slice_index ws i.0) (slice_index vs i.0) e (g.spell i.0 p)
term-told v one cells ls n cw ws vs (Truncate w i) g x =
    let p = only i.0 in
    let e : length (ls i.0) ≡ slice_index ws i.0 = g.widths i.0 p in
    take-number v w (ls i.0) (omega (arith, e, g.fits.2)) ∙ ap (λ (a : ℕ). a % 2 ^ w) (g.spell i.0 p)
term-told v one cells ls n cw ws vs (Bit k i) g x =
    let p = only i.0 in
    let e : length (ls i.0) ≡ slice_index ws i.0 = g.widths i.0 p in
    number-one v (standing (ls i.0) k) ∙ (standing-number v k (ls i.0) (omega (arith, e, g.fits.1)) ∙ ap (λ (a : ℕ). bit_of k a) (g.spell i.0 p))
