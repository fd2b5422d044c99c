-- A formula put into another table with 0 in place of cells that are not kept.
use Rattle.std.proofs.Common.{◌≡◌, ℕ, ◌+◌, ◌<◌, Bool, true, false, List, [], ◌∷◌, ◌++◌, length, refl, sym, ap, ◌∙◌, subst, zero, suc, arith, Some, Result, Ok, Err, slice_get, slice_index, slice_index_or, bit_and, bit_or, if◌then◌else◌, inl, inr, ◌⊎◌, length-append, append_assoc}
use Rattle.std.specs.Prelude.{IfOk, OnErr}
use Rattle.std.proofs.lemmas.List.{append-nil}
use Rattle.std.proofs.lemmas.Nat.{pow_pos}
use Rattle.bv_term.specs.declared.term.TermId.{TermId}
use Rattle.bv_term.specs.declared.term.Term.{Term}
use Rattle.bv_term.specs.declared.term.Term.TheVariants.{Constant, Cell, Element, Add, Subtract, Multiply, Divide, Remainder, And, Or, Xor, Not, ShiftLeft, ShiftRight, ShiftSigned, Equal, Less, LessSigned, Select, ZeroExtend, SignExtend, Truncate, Bit}
use Rattle.bv_term.specs.Numbers.{bit_of, complement_in}
use Rattle.bv_term.specs.WellFormed.{Table, IsTable, IsWidth, FitsTable, Fits, widths, width_in}
use Rattle.bv_term.specs.Values.{value, value_in, values}
use Rattle.bv_term.specs.Laws.{IsPut, Extends}
use Rattle.bv_term.proofs.Staying.{values_stay, widths_stay}
use Rattle.bv_term.proofs.Growing.{length-widths}
use Rattle.term_laws.specs.Operands.{Follows, OnOperands, renamed}
use Rattle.term_laws.specs.Laws.{IsMade}
use Rattle.term_laws.proofs.Renaming as renaming
use Rattle.term_laws.proofs.Made.{made, onto}
use Rattle.term_copy.specs.Copies.{number_in}
use Rattle.formula_diagrams.specs.Writings.{AnyCell, IsPlain, IsPlain.is_constant, IsPlain.is_cell, IsPlain.is_bit, IsPlain.is_not, IsPlain.is_and, IsPlain.is_or}
use Rattle.formula_diagrams.proofs.Putting.{plain-stays}
use Rattle.term_masks.specs.Masks.{AreMasked, IsKept, is_kept, masked, masked_cell, masked_in}

-- extending
pub put-extends : {E : Type 0} (r : Result TermId E) (a b : Table) (t : Term) → IfOk r (λ id. IsPut a b t) → OnErr r (b ≡ a) → Extends a b
put-extends (Ok x) a b t p q = elim p [
  | inl e ↦ subst (λ (c : Table). Extends a c) (sym e) (refl, ([], sym (append-nil a.terms)))
  | inr e ↦ subst (λ (c : Table). Extends a c) (sym e.0) (refl, (t ∷ [], refl))
]
put-extends (Err x) a b t p q = subst (λ (c : Table). Extends a c) (sym q) (refl, ([], sym (append-nil a.terms)))

pub extends_none : (a : Table) → Extends a a
extends_none a = (refl, ([], sym (append-nil a.terms)))

pub extends_twice : (a b c : Table) → Extends a b → Extends b c → Extends a c
extends_twice a b c g h =
    (h.0 ∙ g.0, (g.1.0 ++ h.1.0, h.1.1 ∙ ap (λ (ts : List Term). ts ++ h.1.0) g.1.1 ∙ append_assoc a.terms g.1.0 h.1.0))

many : (a : Table) → length (widths a) ≡ length a.terms
many a = omega (arith, length-widths a.cells [] a.terms)

-- the store with 0 in the cells that are not kept
same-either : (b : Bool) (n : ℕ) → n ≡ (if b then n else n)
same-either true n = refl
same-either false n = refl

masked_at : (kept : List Bool) (store : List ℕ) (c : ℕ) → slice_index (masked kept store) c ≡ (if is_kept kept c then slice_index store c else 0)
masked_at [] store c = refl
masked_at (b ∷ kept) [] c = same-either (is_kept (b ∷ kept) c) 0
masked_at (b ∷ kept) (x ∷ store) zero = refl
masked_at (b ∷ kept) (x ∷ store) (suc c) = masked_at kept store c

pub masked_keeps : (kept : List Bool) (store : List ℕ) (c : ℕ) → is_kept kept c ≡ true → slice_index store c ≡ slice_index (masked kept store) c
masked_keeps kept store c e = sym (masked_at kept store c ∙ ap (λ (b : Bool). if b then slice_index store c else 0) e)

-- of a formula its operands are formulas
abbrev Parts : Table → (ℕ → Type 0) → Term → Type 0
Parts table P (Constant w v) = Unit {0}
Parts table P (Cell c) = P c
Parts table P (Bit k i) = IsPlain table P i
Parts table P (Not i) = IsPlain table P i
Parts table P (And i j) = IsPlain table P i × IsPlain table P j
Parts table P (Or i j) = IsPlain table P i × IsPlain table P j
Parts table P _ = ⊥

parts : (table : Table) (P : ℕ → Type 0) (t : TermId) (u : Term) → slice_get table.terms t.0 ≡ Some u → IsPlain table P t → Parts table P u
parts table P t u g (is_constant w v s) = let e : Constant w v ≡ u = cc in subst (Parts table P) e tt
parts table P t u g (is_cell c n s) = let e : Cell c ≡ u = cc in subst (Parts table P) e n
parts table P t u g (is_bit k i p s) = let e : Bit k i ≡ u = cc in subst (Parts table P) e p
parts table P t u g (is_not i p s) = let e : Not i ≡ u = cc in subst (Parts table P) e p
parts table P t u g (is_and i j p q s) = let e : And i j ≡ u = cc in subst (Parts table P) e (p, q)
parts table P t u g (is_or i j p q s) = let e : Or i j ≡ u = cc in subst (Parts table P) e (p, q)

-- what is put is well formed
zero_fits : (cells ws : List ℕ) (w : ℕ) → IsWidth w → Fits cells ws (Constant w 0)
zero_fits cells ws w i = (i, pow_pos w)

cell_fits : (kept : List Bool) (cells ws : List ℕ) (w c : ℕ) → IsWidth w → c < length cells → Fits cells ws (masked_cell kept w c)
cell_fits kept cells ws w c i lt = by (is_kept kept c)
  where
    by : (b : Bool) → Fits cells ws (if b then Cell c else Constant w 0)
    by true = lt
    by false = zero_fits cells ws w i

masked_fits : (kept : List Bool) (to : List TermId) (cells ws : List ℕ) (w : ℕ) (u : Term) → IsWidth w → Fits cells ws (renamed (number_in to) u)
    → Fits cells ws (masked_in kept to w u)
masked_fits kept to cells ws w (Constant v x) i f = f
masked_fits kept to cells ws w (Cell c) i f = cell_fits kept cells ws w c i f
masked_fits kept to cells ws w (Bit k x) i f = f
masked_fits kept to cells ws w (Not x) i f = f
masked_fits kept to cells ws w (And x y) i f = f
masked_fits kept to cells ws w (Or x y) i f = f
masked_fits kept to cells ws w (Element a n x) i f = zero_fits cells ws w i
masked_fits kept to cells ws w (Add x y) i f = zero_fits cells ws w i
masked_fits kept to cells ws w (Subtract x y) i f = zero_fits cells ws w i
masked_fits kept to cells ws w (Multiply x y) i f = zero_fits cells ws w i
masked_fits kept to cells ws w (Divide x y) i f = zero_fits cells ws w i
masked_fits kept to cells ws w (Remainder x y) i f = zero_fits cells ws w i
masked_fits kept to cells ws w (Xor x y) i f = zero_fits cells ws w i
masked_fits kept to cells ws w (ShiftLeft x y) i f = zero_fits cells ws w i
masked_fits kept to cells ws w (ShiftRight x y) i f = zero_fits cells ws w i
masked_fits kept to cells ws w (ShiftSigned x y) i f = zero_fits cells ws w i
masked_fits kept to cells ws w (Equal x y) i f = zero_fits cells ws w i
masked_fits kept to cells ws w (Less x y) i f = zero_fits cells ws w i
masked_fits kept to cells ws w (LessSigned x y) i f = zero_fits cells ws w i
masked_fits kept to cells ws w (Select x y z) i f = zero_fits cells ws w i
masked_fits kept to cells ws w (ZeroExtend v x) i f = zero_fits cells ws w i
masked_fits kept to cells ws w (SignExtend v x) i f = zero_fits cells ws w i
masked_fits kept to cells ws w (Truncate v x) i f = zero_fits cells ws w i

follows : (from into : Table) (kept : List Bool) (to : List TermId) (u : Term) → AreMasked from into kept to → OnOperands (λ i. i.0 < length to) u
    → OnOperands (Follows (number_in to) (widths from) (widths into)) u
follows from into kept to u c h =
    onto (λ i. i.0 < length to) (Follows (number_in to) (widths from) (widths into)) u
    (λ i lt. record { there = omega (arith, c.there i lt, many into); same = c.widths_are i lt }) h

pub next_fits : (from into : Table) (kept : List Bool) (to : List TermId) (w : ℕ) (u : Term) → IsTable from → slice_get from.terms (length to) ≡ Some u
    → into.cells ≡ from.cells → w ≡ slice_index (widths from) (length to) → IsWidth w → AreMasked from into kept to
    → FitsTable into (masked_in kept to w u)
next_fits from into kept to w u h s e ew iw c =
    let t : TermId = record { 0 = length to } in
    let m = made from [] t u h s in
    let f = renaming.fits (number_in to) from.cells (widths from) (widths into) u (follows from into kept to u c m.before) m.fits in
    let g : Fits into.cells (widths into) (renamed (number_in to) u) =
    subst (λ (cs : List ℕ). Fits cs (widths into) (renamed (number_in to) u)) (sym e) f in
    masked_fits kept to into.cells (widths into) w u iw g

-- how wide it is
cell_width : (kept : List Bool) (cells ws : List ℕ) (w c : ℕ) → w ≡ slice_index cells c → width_in cells ws (masked_cell kept w c) ≡ w
cell_width kept cells ws w c e = by (is_kept kept c)
  where
    by : (b : Bool) → width_in cells ws (if b then Cell c else Constant w 0) ≡ w
    by true = sym e
    by false = refl

masked_width : (kept : List Bool) (to : List TermId) (cells old new : List ℕ) (w : ℕ) (u : Term)
    → OnOperands (Follows (number_in to) old new) u → w ≡ width_in cells old u → width_in cells new (masked_in kept to w u) ≡ w
masked_width kept to cells old new w (Constant v x) h e = sym e
masked_width kept to cells old new w (Cell c) h e = cell_width kept cells new w c e
masked_width kept to cells old new w (Bit k x) h e = sym e
masked_width kept to cells old new w (Not x) h e = h.same ∙ sym e
masked_width kept to cells old new w (And x y) h e = h.0.same ∙ sym e
masked_width kept to cells old new w (Or x y) h e = h.0.same ∙ sym e
masked_width kept to cells old new w (Element a n x) h e = refl
masked_width kept to cells old new w (Add x y) h e = refl
masked_width kept to cells old new w (Subtract x y) h e = refl
masked_width kept to cells old new w (Multiply x y) h e = refl
masked_width kept to cells old new w (Divide x y) h e = refl
masked_width kept to cells old new w (Remainder x y) h e = refl
masked_width kept to cells old new w (Xor x y) h e = refl
masked_width kept to cells old new w (ShiftLeft x y) h e = refl
masked_width kept to cells old new w (ShiftRight x y) h e = refl
masked_width kept to cells old new w (ShiftSigned x y) h e = refl
masked_width kept to cells old new w (Equal x y) h e = refl
masked_width kept to cells old new w (Less x y) h e = refl
masked_width kept to cells old new w (LessSigned x y) h e = refl
masked_width kept to cells old new w (Select x y z) h e = refl
masked_width kept to cells old new w (ZeroExtend v x) h e = refl
masked_width kept to cells old new w (SignExtend v x) h e = refl
masked_width kept to cells old new w (Truncate v x) h e = refl

-- its value
abbrev SameAt : List ℕ → List ℕ → List TermId → TermId → Type 0
SameAt past now to i = slice_index now (number_in to i).0 ≡ slice_index past i.0

cell_value : (kept : List Bool) (store new now : List ℕ) (w c : ℕ) → value_in store new now (masked_cell kept w c) ≡ slice_index (masked kept store) c
cell_value kept store new now w c = by (is_kept kept c) ∙ sym (masked_at kept store c)
  where
    by : (b : Bool) → value_in store new now (if b then Cell c else Constant w 0) ≡ (if b then slice_index store c else 0)
    by true = refl
    by false = refl

module _ (from : Table) (kept : List Bool) (to : List TermId) (store old new past now : List ℕ) (w : ℕ)
    (same : (i : TermId) → i.0 < length to → IsPlain from AnyCell i → SameAt past now to i) where
  masked_value : (u : Term) → OnOperands (λ i. i.0 < length to) u → OnOperands (Follows (number_in to) old new) u → Parts from AnyCell u
      → value_in store new now (masked_in kept to w u) ≡ value_in (masked kept store) old past u
  masked_value (Constant v x) b f p = refl
  masked_value (Cell c) b f p = cell_value kept store new now w c
  masked_value (Bit k x) b f p = ap (bit_of k) (same x b p)
  masked_value (Not x) b f p =
      ap (λ (n : ℕ). complement_in n (slice_index now (number_in to x).0)) f.same ∙ ap (complement_in (slice_index old x.0)) (same x b p)
  masked_value (And x y) b f p =
      ap (λ (n : ℕ). bit_and n (slice_index now (number_in to y).0)) (same x b.0 p.0) ∙ ap (bit_and (slice_index past x.0)) (same y b.1 p.1)
  masked_value (Or x y) b f p =
      ap (λ (n : ℕ). bit_or n (slice_index now (number_in to y).0)) (same x b.0 p.0) ∙ ap (bit_or (slice_index past x.0)) (same y b.1 p.1)
  masked_value (Element a n x) b f p = absurd p
  masked_value (Add x y) b f p = absurd p
  masked_value (Subtract x y) b f p = absurd p
  masked_value (Multiply x y) b f p = absurd p
  masked_value (Divide x y) b f p = absurd p
  masked_value (Remainder x y) b f p = absurd p
  masked_value (Xor x y) b f p = absurd p
  masked_value (ShiftLeft x y) b f p = absurd p
  masked_value (ShiftRight x y) b f p = absurd p
  masked_value (ShiftSigned x y) b f p = absurd p
  masked_value (Equal x y) b f p = absurd p
  masked_value (Less x y) b f p = absurd p
  masked_value (LessSigned x y) b f p = absurd p
  masked_value (Select x y z) b f p = absurd p
  masked_value (ZeroExtend v x) b f p = absurd p
  masked_value (SignExtend v x) b f p = absurd p
  masked_value (Truncate v x) b f p = absurd p

-- the cells that it names
cell_plain : (into : Table) (kept : List Bool) (w c : ℕ) (id : TermId) → slice_get into.terms id.0 ≡ Some (masked_cell kept w c) → IsPlain into (IsKept kept) id
cell_plain into kept w c id g = by (is_kept kept c) refl g
  where
    by : (b : Bool) → is_kept kept c ≡ b → slice_get into.terms id.0 ≡ Some (if b then Cell c else Constant w 0) → IsPlain into (IsKept kept) id
    by true e s = is_cell c e s
    by false e s = is_constant w 0 s

module _ (from into : Table) (kept : List Bool) (to : List TermId) (w : ℕ) (id : TermId)
    (plain : (i : TermId) → i.0 < length to → IsPlain from AnyCell i → IsPlain into (IsKept kept) (number_in to i)) where
  masked_plain : (u : Term) → OnOperands (λ i. i.0 < length to) u → Parts from AnyCell u → slice_get into.terms id.0 ≡ Some (masked_in kept to w u)
      → IsPlain into (IsKept kept) id
  masked_plain (Constant v x) b p s = is_constant v x s
  masked_plain (Cell c) b p s = cell_plain into kept w c id s
  masked_plain (Bit k x) b p s = is_bit k (number_in to x) (plain x b p) s
  masked_plain (Not x) b p s = is_not (number_in to x) (plain x b p) s
  masked_plain (And x y) b p s = is_and (number_in to x) (number_in to y) (plain x b.0 p.0) (plain y b.1 p.1) s
  masked_plain (Or x y) b p s = is_or (number_in to x) (number_in to y) (plain x b.0 p.0) (plain y b.1 p.1) s
  masked_plain (Element a n x) b p s = absurd p
  masked_plain (Add x y) b p s = absurd p
  masked_plain (Subtract x y) b p s = absurd p
  masked_plain (Multiply x y) b p s = absurd p
  masked_plain (Divide x y) b p s = absurd p
  masked_plain (Remainder x y) b p s = absurd p
  masked_plain (Xor x y) b p s = absurd p
  masked_plain (ShiftLeft x y) b p s = absurd p
  masked_plain (ShiftRight x y) b p s = absurd p
  masked_plain (ShiftSigned x y) b p s = absurd p
  masked_plain (Equal x y) b p s = absurd p
  masked_plain (Less x y) b p s = absurd p
  masked_plain (LessSigned x y) b p s = absurd p
  masked_plain (Select x y z) b p s = absurd p
  masked_plain (ZeroExtend v x) b p s = absurd p
  masked_plain (SignExtend v x) b p s = absurd p
  masked_plain (Truncate v x) b p s = absurd p

-- one more number
last-of : (to : List TermId) (id : TermId) (i : ℕ) → i ≡ length to → slice_index_or (to ++ id ∷ []) i (record { 0 = 0 }) ≡ id
last-of [] id i e = subst (λ (n : ℕ). slice_index_or (id ∷ []) n (record { 0 = 0 }) ≡ id) (sym e) refl
last-of (x ∷ to) id i e = subst (λ (n : ℕ). slice_index_or (x ∷ (to ++ id ∷ [])) n (record { 0 = 0 }) ≡ id) (sym e) (last-of to id (length to) refl)

earlier-of : (to : List TermId) (id : TermId) (i : ℕ) → i < length to
    → slice_index_or (to ++ id ∷ []) i (record { 0 = 0 }) ≡ slice_index_or to i (record { 0 = 0 })
earlier-of [] id i lt = absurd (omega (arith, lt))
earlier-of (x ∷ to) id zero lt = refl
earlier-of (x ∷ to) id (suc i) lt = earlier-of to id i (omega (arith, lt))

split : (i n : ℕ) → i < n + 1 → (i < n) ⊎ (i ≡ n)
split zero zero lt = inr refl
split zero (suc n) lt = inl (omega arith)
split (suc i) zero lt = absurd (omega (arith, lt))
split (suc i) (suc n) lt = elim (split i n (omega (arith, lt))) [ inl h ↦ inl (omega (arith, h)) | inr e ↦ inr (ap suc e) ]

grown : (from into new : Table) (kept : List Bool) (to : List TermId) → Extends into new → AreMasked from into kept to → AreMasked from new kept to
grown from into new kept to g c = record {
  there = λ i lt. omega (arith, c.there i lt, ap length g.1.1, length-append into.terms g.1.0);
  widths_are = λ i lt. widths_stay into new (number_in to i) g (c.there i lt) ∙ c.widths_are i lt;
  values_are = λ store i lt p. values_stay into new store (number_in to i) g (c.there i lt) ∙ c.values_are store i lt p;
  plain = λ i lt p. plain-stays into new (IsKept kept) (number_in to i) g (c.plain i lt p);
}

masked_one : (from into new : Table) (kept : List Bool) (to : List TermId) (w : ℕ) (u : Term) (id : TermId) → IsTable from → slice_get from.terms (length to) ≡ Some u
    → into.cells ≡ from.cells → w ≡ slice_index (widths from) (length to) → AreMasked from into kept to → Extends into new → IsTable new
    → slice_get new.terms id.0 ≡ Some (masked_in kept to w u) → AreMasked from new kept (to ++ id ∷ [])
masked_one from into new kept to w u id h s e ew c g is n =
    let d = grown from into new kept to g c in
    let cells : new.cells ≡ from.cells = g.0 ∙ e in
    let last : TermId = record { 0 = length to } in
    let t : Term = masked_in kept to w u in
    let m : (store : List ℕ) → IsMade from store last u = λ store. made from store last u h s in
    let k : (store : List ℕ) → IsMade new store id t = λ store. made new store id t is n in
    let before : OnOperands (λ i. i.0 < length to) u = (m []).before in
    let fl = follows from new kept to u d before in
    let wide : w ≡ width_in new.cells (widths from) u = ew ∙ (m []).width ∙ ap (λ (cs : List ℕ). width_in cs (widths from) u) (sym cells) in
    let width : slice_index (widths new) id.0 ≡ slice_index (widths from) (length to) =
    (k []).width ∙ masked_width kept to new.cells (widths from) (widths new) w u fl wide ∙ ew in
    let val : (store : List ℕ) → IsPlain from AnyCell last → value new store id ≡ value from (masked kept store) last = λ store p.
    (k store).value
    ∙ masked_value from kept to store (widths from) (widths new) (values from (masked kept store)) (values new store) w (λ i lt q. d.values_are store i lt q) u before fl
    (parts from AnyCell last u s p)
    ∙ sym (m (masked kept store)).value in
    let pl : IsPlain from AnyCell last → IsPlain new (IsKept kept) id = λ p.
    masked_plain from new kept to w id (λ i lt q. d.plain i lt q) u before (parts from AnyCell last u s p) n in
    let few : (i : TermId) → i.0 < length (to ++ id ∷ []) → (i.0 < length to) ⊎ (i.0 ≡ length to) =
    λ i lt. split i.0 (length to) (omega (arith, lt, length-append to (id ∷ []))) in
    let named : (i : TermId) → i.0 ≡ length to → i ≡ last = λ i q. ap (λ (x : ℕ). let y : TermId = record { 0 = x } in y) q in
    record {
      there = λ i lt. elim (few i lt) as (λ _. (number_in (to ++ id ∷ []) i).0 < length new.terms) [
        | inl a ↦ subst (λ (x : TermId). x.0 < length new.terms) (sym (earlier-of to id i.0 a)) (d.there i a)
        | inr q ↦ subst (λ (x : TermId). x.0 < length new.terms) (sym (last-of to id i.0 q)) (k []).there
      ];
      widths_are = λ i lt. elim (few i lt) as (λ _. slice_index (widths new) (number_in (to ++ id ∷ []) i).0 ≡ slice_index (widths from) i.0) [
        | inl a ↦ ap (λ (x : TermId). slice_index (widths new) x.0) (earlier-of to id i.0 a) ∙ d.widths_are i a
        | inr q ↦ ap (λ (x : TermId). slice_index (widths new) x.0) (last-of to id i.0 q) ∙ width ∙ ap (slice_index (widths from)) (sym q)
      ];
      values_are = λ store i lt p. elim (few i lt) as (λ _. value new store (number_in (to ++ id ∷ []) i) ≡ value from (masked kept store) i) [
        | inl a ↦ ap (value new store) (earlier-of to id i.0 a) ∙ d.values_are store i a p
        | inr q ↦
            ap (value new store) (last-of to id i.0 q) ∙ val store (subst (IsPlain from AnyCell) (named i q) p)
            ∙ ap (slice_index (values from (masked kept store))) (sym q)
      ];
      plain = λ i lt p. elim (few i lt) as (λ _. IsPlain new (IsKept kept) (number_in (to ++ id ∷ []) i)) [
        | inl a ↦ subst (IsPlain new (IsKept kept)) (sym (earlier-of to id i.0 a)) (d.plain i a p)
        | inr q ↦ subst (IsPlain new (IsKept kept)) (sym (last-of to id i.0 q)) (pl (subst (IsPlain from AnyCell) (named i q) p))
      ];
    }

-- the next term is there where it was put
pub masked_put : {E : Type 0} (r : Result TermId E) (from into new : Table) (kept : List Bool) (to : List TermId) (w : ℕ) (u t : Term) → IsTable from
    → slice_get from.terms (length to) ≡ Some u → into.cells ≡ from.cells → w ≡ slice_index (widths from) (length to) → AreMasked from into kept to
    → t ≡ masked_in kept to w u → IsTable new → IfOk r (λ id. IsPut into new t) → OnErr r (new ≡ into)
    → IfOk r (λ id. slice_get new.terms id.0 ≡ Some t) → IfOk r (λ id. AreMasked from new kept (to ++ id ∷ []))
masked_put {E = E} (Ok id) from into new kept to w u t h s e ew c q is p o n =
    masked_one from into new kept to w u id h s e ew c (put-extends {E = E} (Ok id) into new t p o) is (n ∙ ap Some q)
masked_put (Err x) from into new kept to w u t h s e ew c q is p o n = tt

-- no term is there yet
pub masked_none : (from into : Table) (kept : List Bool) → AreMasked from into kept []
masked_none from into kept = record {
  there = λ i lt. absurd (omega (arith, lt));
  widths_are = λ i lt. absurd (omega (arith, lt));
  values_are = λ store i lt. absurd (omega (arith, lt));
  plain = λ i lt. absurd (omega (arith, lt));
}

-- more cells may be named
pub plain_more : (table : Table) (P Q : ℕ → Type 0) (t : TermId) → ((c : ℕ) → P c → Q c) → IsPlain table P t → IsPlain table Q t
plain_more table P Q t f (is_constant w v s) = is_constant w v s
plain_more table P Q t f (is_cell c n s) = is_cell c (f c n) s
plain_more table P Q t f (is_bit k i p s) = is_bit k i (plain_more table P Q i f p) s
plain_more table P Q t f (is_not i p s) = is_not i (plain_more table P Q i f p) s
plain_more table P Q t f (is_and i j p q s) = is_and i j (plain_more table P Q i f p) (plain_more table P Q j f q) s
plain_more table P Q t f (is_or i j p q s) = is_or i j (plain_more table P Q i f p) (plain_more table P Q j f q) s
