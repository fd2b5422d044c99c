-- The terms of a table, each by its operands.
use Rattle.std.proofs.Common.{◌≡◌, ℕ, ◌+◌, ◌<◌, List, [], ◌∷◌, ◌++◌, length, refl, sym, ap, ◌∙◌, subst, zero, suc, arith, Some, slice_get, slice_index, length-append}
use Rattle.bv_term.specs.declared.term.TermId.{TermId}
use Rattle.bv_term.specs.declared.term.Term.{Term}
use Rattle.bv_term.specs.declared.term.Term.TheVariants.{Constant, Cell, Element, Add, Subtract, Multiply, Divide, Remainder, And, Or, Xor, Not, ShiftLeft, ShiftRight, ShiftSigned, Equal, Less, LessSigned, Select, ZeroExtend, SignExtend, Truncate, Bit}
use Rattle.bv_term.specs.WellFormed.{Table, IsTable, Fits, AllFit, width_in, widths_after, widths}
use Rattle.bv_term.specs.Values.{value_in, values_after, values}
use Rattle.bv_term.proofs.Staying.{widths-keep, values-keep}
use Rattle.bv_term.proofs.Growing.{length-widths}
use Rattle.term_laws.specs.Operands.{Follows, OnOperands, renamed}
use Rattle.term_laws.specs.Laws.{IsMade}
use Rattle.term_laws.proofs.Renaming as renaming

-- a term of a table, over the widths and values of the terms before it
record Over (cw store allw allv ws vs : List ℕ) (t : Term) (k : ℕ) : Type 0 where
  fits : Fits cw ws t
  many : length ws ≡ k
  same : (i : ℕ) → i < k → slice_index ws i ≡ slice_index allw i
  width : slice_index allw k ≡ width_in cw ws t
  seen : (i : ℕ) → i < k → slice_index vs i ≡ slice_index allv i
  value : slice_index allv k ≡ value_in store ws vs t

index-last : (xs : List ℕ) (w : ℕ) → slice_index (xs ++ w ∷ []) (length xs) ≡ w
index-last [] w = refl
index-last (x ∷ xs) w = index-last xs w

over-from : (cw store ws vs : List ℕ) (ts : List Term) (k : ℕ) (u : Term) → AllFit cw ws ts → length vs ≡ length ws → slice_get ts k ≡ Some u
    → (us : List ℕ) × ((xs : List ℕ) × Over cw store (widths_after cw ws ts) (values_after cw store ws vs ts) us xs u (length ws + k))
over-from cw store ws vs [] k u f e s = absurd cc
over-from cw store ws vs (t ∷ ts) zero u f e s =
    let q : t ≡ u = cc in
    let w = width_in cw ws t in
    let x = value_in store ws vs t in
    let lw : length (ws ++ w ∷ []) ≡ length ws + 1 = length-append ws (w ∷ []) in
    let lv : length (vs ++ x ∷ []) ≡ length vs + 1 = length-append vs (x ∷ []) in
    let z : length ws + 0 ≡ length ws = omega arith in
    let zv : length ws + 0 ≡ length vs = omega (arith, e) in
    let at : slice_index (widths_after cw (ws ++ w ∷ []) ts) (length ws) ≡ w
    = widths-keep cw (ws ++ w ∷ []) ts (length ws) (omega (arith, lw)) ∙ index-last ws w in
    let av : slice_index (values_after cw store (ws ++ w ∷ []) (vs ++ x ∷ []) ts) (length vs) ≡ x
    = values-keep cw store (ws ++ w ∷ []) (vs ++ x ∷ []) ts (length vs) (omega (arith, lv)) ∙ index-last vs x in
    let P : Term → Type 0 = λ y. Over cw store (widths_after cw ws (t ∷ ts)) (values_after cw store ws vs (t ∷ ts)) ws vs y (length ws + 0) in (
      ws,
      (
        vs,
        subst P q (record {
          fits = f.0;
          many = sym z;
          same = λ i less. sym (widths-keep cw ws (t ∷ ts) i (omega (arith, less, z)));
          width = ap (slice_index (widths_after cw (ws ++ w ∷ []) ts)) z ∙ at;
          seen = λ i less. sym (values-keep cw store ws vs (t ∷ ts) i (omega (arith, less, zv)));
          value = ap (slice_index (values_after cw store (ws ++ w ∷ []) (vs ++ x ∷ []) ts)) zv ∙ av;
        }),
      ),
    )
over-from cw store ws vs (t ∷ ts) (suc k) u f e s =
    let w = width_in cw ws t in
    let x = value_in store ws vs t in
    let lw : length (ws ++ w ∷ []) ≡ length ws + 1 = length-append ws (w ∷ []) in
    let lv : length (vs ++ x ∷ []) ≡ length vs + 1 = length-append vs (x ∷ []) in
    let r = over-from cw store (ws ++ w ∷ []) (vs ++ x ∷ []) ts k u f.1 (omega (arith, lw, lv, e)) s in
    let j : length (ws ++ w ∷ []) + k ≡ length ws + suc k = omega (arith, lw) in
    (r.0, (r.1.0, subst (λ (i : ℕ). Over cw store (widths_after cw (ws ++ w ∷ []) ts) (values_after cw store (ws ++ w ∷ []) (vs ++ x ∷ []) ts) r.0 r.1.0 u i) j r.1.1))

abbrev IsOver : Table → List ℕ → ℕ → Term → Type 0
IsOver table store k u =
    (us : List ℕ) × ((xs : List ℕ) × Over table.cells store (widths table) (values table store) us xs u k)

over : (table : Table) (store : List ℕ) (k : ℕ) (u : Term) → IsTable table → slice_get table.terms k ≡ Some u → IsOver table store k u
over table store k u h s =
    let r = over-from table.cells store [] [] table.terms k u h.terms refl s in
    let e : 0 + k ≡ k = omega arith in
    (r.0, (r.1.0, subst (λ (i : ℕ). Over table.cells store (widths table) (values table store) r.0 r.1.0 u i) e r.1.1))

there-below : (ts : List Term) (k : ℕ) (u : Term) → slice_get ts k ≡ Some u → k < length ts
there-below [] k u s = absurd cc
there-below (x ∷ ts) zero u s = omega arith
there-below (x ∷ ts) (suc k) u s = omega (arith, there-below ts k u s)

abbrev itself : TermId → TermId
itself i = i

below : (cells ws : List ℕ) (u : Term) → Fits cells ws u → OnOperands (λ i. i.0 < length ws) u
below cells ws (Constant w v) h = tt
below cells ws (Cell c) h = tt
below cells ws (Element first n i) h = h.1
below cells ws (Add i j) h = (h.0, h.1)
below cells ws (Subtract i j) h = (h.0, h.1)
below cells ws (Multiply i j) h = (h.0, h.1)
below cells ws (Divide i j) h = (h.0, h.1)
below cells ws (Remainder i j) h = (h.0, h.1)
below cells ws (And i j) h = (h.0, h.1)
below cells ws (Or i j) h = (h.0, h.1)
below cells ws (Xor i j) h = (h.0, h.1)
below cells ws (Not i) h = h
below cells ws (ShiftLeft i j) h = (h.0, h.1)
below cells ws (ShiftRight i j) h = (h.0, h.1)
below cells ws (ShiftSigned i j) h = (h.0, h.1)
below cells ws (Equal i j) h = (h.0, h.1)
below cells ws (Less i j) h = (h.0, h.1)
below cells ws (LessSigned i j) h = (h.0, h.1)
below cells ws (Select i j k) h = (h.0, h.2.0, h.2.1)
below cells ws (ZeroExtend w i) h = h.0
below cells ws (SignExtend w i) h = h.0
below cells ws (Truncate w i) h = h.0
below cells ws (Bit n i) h = h.0

pub onto : (P Q : TermId → Type 0) (u : Term) → ((i : TermId) → P i → Q i) → OnOperands P u → OnOperands Q u
onto P Q (Constant w v) g h = tt
onto P Q (Cell c) g h = tt
onto P Q (Element first n i) g h = g i h
onto P Q (Add i j) g h = (g i h.0, g j h.1)
onto P Q (Subtract i j) g h = (g i h.0, g j h.1)
onto P Q (Multiply i j) g h = (g i h.0, g j h.1)
onto P Q (Divide i j) g h = (g i h.0, g j h.1)
onto P Q (Remainder i j) g h = (g i h.0, g j h.1)
onto P Q (And i j) g h = (g i h.0, g j h.1)
onto P Q (Or i j) g h = (g i h.0, g j h.1)
onto P Q (Xor i j) g h = (g i h.0, g j h.1)
onto P Q (Not i) g h = g i h
onto P Q (ShiftLeft i j) g h = (g i h.0, g j h.1)
onto P Q (ShiftRight i j) g h = (g i h.0, g j h.1)
onto P Q (ShiftSigned i j) g h = (g i h.0, g j h.1)
onto P Q (Equal i j) g h = (g i h.0, g j h.1)
onto P Q (Less i j) g h = (g i h.0, g j h.1)
onto P Q (LessSigned i j) g h = (g i h.0, g j h.1)
onto P Q (Select i j k) g h = (g i h.0, g j h.1, g k h.2)
onto P Q (ZeroExtend w i) g h = g i h
onto P Q (SignExtend w i) g h = g i h
onto P Q (Truncate w i) g h = g i h
onto P Q (Bit n i) g h = g i h

same : (u : Term) → renamed itself u ≡ u
same (Constant w v) = refl
same (Cell c) = refl
same (Element first n i) = refl
same (Add i j) = refl
same (Subtract i j) = refl
same (Multiply i j) = refl
same (Divide i j) = refl
same (Remainder i j) = refl
same (And i j) = refl
same (Or i j) = refl
same (Xor i j) = refl
same (Not i) = refl
same (ShiftLeft i j) = refl
same (ShiftRight i j) = refl
same (ShiftSigned i j) = refl
same (Equal i j) = refl
same (Less i j) = refl
same (LessSigned i j) = refl
same (Select i j k) = refl
same (ZeroExtend w i) = refl
same (SignExtend w i) = refl
same (Truncate w i) = refl
same (Bit n i) = refl

pub made : (table : Table) (store : List ℕ) (t : TermId) (u : Term) → IsTable table → slice_get table.terms t.0 ≡ Some u
    → IsMade table store t u
made table store t u h s =
    let r = over table store t.0 u h s in
    let us = r.0 in
    let xs = r.1.0 in
    let o = r.1.1 in
    let lt : t.0 < length table.terms = there-below table.terms t.0 u s in
    let many : length (widths table) ≡ length table.terms = omega (arith, length-widths table.cells [] table.terms) in
    let low : OnOperands (λ i. i.0 < t.0) u = onto (λ i. i.0 < length us) (λ i. i.0 < t.0) u (λ i g. omega (arith, g, o.many)) (below table.cells us u o.fits) in
    let wide : OnOperands (Follows itself us (widths table)) u =
    onto (λ i. i.0 < t.0) (Follows itself us (widths table)) u (λ i g. record { there = omega (arith, g, lt, many); same = sym (o.same i.0 g) }) low in
    let seen : OnOperands (λ i. slice_index (values table store) i.0 ≡ slice_index xs i.0) u = onto (λ i. i.0 < t.0) (λ i. slice_index (values table store) i.0 ≡ slice_index xs i.0) u (λ i g. sym (o.seen i.0 g)) low in
    record {
      there = lt;
      fits = subst (Fits table.cells (widths table)) (same u) (renaming.fits itself table.cells us (widths table) u wide o.fits);
      before = low;
      width = o.width ∙ sym (subst (λ y. width_in table.cells (widths table) y ≡ width_in table.cells us u) (same u) (renaming.width itself table.cells us (widths table) u wide));
      value = o.value ∙ sym (subst (λ y. value_in store (widths table) (values table store) y ≡ value_in store us xs u) (same u) (renaming.value itself store us (widths table) xs (values table store) u wide seen));
    }
