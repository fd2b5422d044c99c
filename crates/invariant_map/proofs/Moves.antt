-- Operands of terms, and terms over the places of their operands.
use Rattle.std.proofs.Common.{◌≡◌, ℕ, ◌+◌, ◌<◌, List, [], ◌∷◌, ◌++◌, length, refl, sym, ap, ◌∙◌, subst, zero, suc, arith, Some, slice_get, slice_index, length-append, ◌^◌, nat_lt, ◌==◌, if◌then◌else◌, bit_and, bit_or, bit_xor, ◌%◌}
use Rattle.bv_term.specs.declared.term.TermId.{TermId}
use Rattle.bv_term.specs.declared.term.Term.{Term}
use Rattle.bv_term.specs.declared.term.Term.TheVariants.{Constant, Cell, Element, Add, Subtract, Multiply, Divide, Remainder, And, Or, Xor, Not, ShiftLeft, ShiftRight, ShiftSigned, Equal, Less, LessSigned, Select, ZeroExtend, SignExtend, Truncate, Bit}
use Rattle.bv_term.specs.Numbers.{sum_in, difference_in, product_in, quotient_of, remainder_of, complement_in, left_in, right_in, signed_right_in, raised, truth, sign_extended, bit_of}
use Rattle.bv_term.specs.WellFormed.{Table, IsTable, Fits, AllFit, width_in, widths_after, widths}
use Rattle.bv_term.specs.Values.{value_in, values_after, values}
use Rattle.bv_term.proofs.Staying.{widths-keep, values-keep}
use Rattle.invariant_map.specs.declared.operands.Uses.{Uses}
use Rattle.invariant_map.specs.declared.operands.Uses.TheVariants.{Nothing, One, Two, Three}
use Rattle.invariant_map.specs.Copies.{EachUse, Each, uses_of, moved, place_of}

-- facts of all operands

each_use_map : (P Q : ℕ → Type 0) (u : Uses) → ((k : ℕ) → P k → Q k) → EachUse P u → EachUse Q u
each_use_map P Q Nothing f e = tt
each_use_map P Q (One a) f e = f a e
each_use_map P Q (Two a b) f e = (f a e.0, f b e.1)
each_use_map P Q (Three a b c) f e = (f a e.0, f b e.1, f c e.2)

pub each_map : (P Q : ℕ → Type 0) (t : Term) → ((k : ℕ) → P k → Q k) → Each P t → Each Q t
each_map P Q t f e = each_use_map P Q (uses_of t) f e

each_use_two : (P Q : ℕ → Type 0) (u : Uses) → EachUse P u → EachUse Q u → EachUse (λ k. P k × Q k) u
each_use_two P Q Nothing e f = tt
each_use_two P Q (One a) e f = (e, f)
each_use_two P Q (Two a b) e f = ((e.0, f.0), (e.1, f.1))
each_use_two P Q (Three a b c) e f = ((e.0, f.0), (e.1, f.1), (e.2, f.2))

pub each_two : (P Q : ℕ → Type 0) (t : Term) → Each P t → Each Q t → Each (λ k. P k × Q k) t
each_two P Q t e f = each_use_two P Q (uses_of t) e f

-- the operands of a term that fits are there
pub fits_below : (cells ws : List ℕ) (t : Term) → Fits cells ws t → Each (λ k. k < length ws) t
fits_below cells ws (Constant w v) f = tt
fits_below cells ws (Cell c) f = tt
fits_below cells ws (Element first n i) f = f.1
fits_below cells ws (Add i j) f = (f.0, f.1)
fits_below cells ws (Subtract i j) f = (f.0, f.1)
fits_below cells ws (Multiply i j) f = (f.0, f.1)
fits_below cells ws (Divide i j) f = (f.0, f.1)
fits_below cells ws (Remainder i j) f = (f.0, f.1)
fits_below cells ws (And i j) f = (f.0, f.1)
fits_below cells ws (Or i j) f = (f.0, f.1)
fits_below cells ws (Xor i j) f = (f.0, f.1)
fits_below cells ws (Not i) f = f
fits_below cells ws (ShiftLeft i j) f = (f.0, f.1)
fits_below cells ws (ShiftRight i j) f = (f.0, f.1)
fits_below cells ws (ShiftSigned i j) f = (f.0, f.1)
fits_below cells ws (Equal i j) f = (f.0, f.1)
fits_below cells ws (Less i j) f = (f.0, f.1)
fits_below cells ws (LessSigned i j) f = (f.0, f.1)
fits_below cells ws (Select i j k) f = (f.0, f.2.0, f.2.1)
fits_below cells ws (ZeroExtend w i) f = f.0
fits_below cells ws (SignExtend w i) f = f.0
fits_below cells ws (Truncate w i) f = f.0
fits_below cells ws (Bit k i) f = f.0

-- the number of a place
abbrev pub at : List TermId → ℕ → ℕ
at ps k = (place_of ps (record { 0 = k })).0

-- a place is there, with the width of its operand
abbrev pub IsAlike : List ℕ → List ℕ → List TermId → ℕ → Type 0
IsAlike ws us ps k = (at ps k < length us) × (slice_index us (at ps k) ≡ slice_index ws k)

-- a term over places fits
pub moved_fits : (cells ws us : List ℕ) (ps : List TermId) (t : Term) → Fits cells ws t → Each (IsAlike ws us ps) t → Fits cells us (moved ps t)
moved_fits cells ws us ps (Constant w v) f e = f
moved_fits cells ws us ps (Cell c) f e = f
moved_fits cells ws us ps (Element first n i) f e = (f.0, e.0)
moved_fits cells ws us ps (Add i j) f e = (e.0.0, e.1.0, e.0.1 ∙ f.2 ∙ sym e.1.1)
moved_fits cells ws us ps (Subtract i j) f e = (e.0.0, e.1.0, e.0.1 ∙ f.2 ∙ sym e.1.1)
moved_fits cells ws us ps (Multiply i j) f e = (e.0.0, e.1.0, e.0.1 ∙ f.2 ∙ sym e.1.1)
moved_fits cells ws us ps (Divide i j) f e = (e.0.0, e.1.0, e.0.1 ∙ f.2 ∙ sym e.1.1)
moved_fits cells ws us ps (Remainder i j) f e = (e.0.0, e.1.0, e.0.1 ∙ f.2 ∙ sym e.1.1)
moved_fits cells ws us ps (And i j) f e = (e.0.0, e.1.0, e.0.1 ∙ f.2 ∙ sym e.1.1)
moved_fits cells ws us ps (Or i j) f e = (e.0.0, e.1.0, e.0.1 ∙ f.2 ∙ sym e.1.1)
moved_fits cells ws us ps (Xor i j) f e = (e.0.0, e.1.0, e.0.1 ∙ f.2 ∙ sym e.1.1)
moved_fits cells ws us ps (Not i) f e = e.0
moved_fits cells ws us ps (ShiftLeft i j) f e = (e.0.0, e.1.0, e.0.1 ∙ f.2 ∙ sym e.1.1)
moved_fits cells ws us ps (ShiftRight i j) f e = (e.0.0, e.1.0, e.0.1 ∙ f.2 ∙ sym e.1.1)
moved_fits cells ws us ps (ShiftSigned i j) f e = (e.0.0, e.1.0, e.0.1 ∙ f.2 ∙ sym e.1.1)
moved_fits cells ws us ps (Equal i j) f e = (e.0.0, e.1.0, e.0.1 ∙ f.2 ∙ sym e.1.1)
moved_fits cells ws us ps (Less i j) f e = (e.0.0, e.1.0, e.0.1 ∙ f.2 ∙ sym e.1.1)
moved_fits cells ws us ps (LessSigned i j) f e = (e.0.0, e.1.0, e.0.1 ∙ f.2 ∙ sym e.1.1)
moved_fits cells ws us ps (Select i j k) f e = (e.0.0, e.0.1 ∙ f.1, (e.1.0, e.2.0, e.1.1 ∙ f.2.2 ∙ sym e.2.1))
moved_fits cells ws us ps (ZeroExtend w i) f e = (e.0, f.1, omega (arith, f.2, e.1))
moved_fits cells ws us ps (SignExtend w i) f e = (e.0, f.1, omega (arith, f.2, e.1))
moved_fits cells ws us ps (Truncate w i) f e = (e.0, f.1, omega (arith, f.2, e.1))
moved_fits cells ws us ps (Bit k i) f e = (e.0, omega (arith, f.1, e.1))

-- if it fits, the places of its operands are there
pub moved_below : (cells us : List ℕ) (ps : List TermId) (t : Term) → Fits cells us (moved ps t) → Each (λ k. at ps k < length us) t
moved_below cells us ps (Constant w v) f = tt
moved_below cells us ps (Cell c) f = tt
moved_below cells us ps (Element first n i) f = f.1
moved_below cells us ps (Add i j) f = (f.0, f.1)
moved_below cells us ps (Subtract i j) f = (f.0, f.1)
moved_below cells us ps (Multiply i j) f = (f.0, f.1)
moved_below cells us ps (Divide i j) f = (f.0, f.1)
moved_below cells us ps (Remainder i j) f = (f.0, f.1)
moved_below cells us ps (And i j) f = (f.0, f.1)
moved_below cells us ps (Or i j) f = (f.0, f.1)
moved_below cells us ps (Xor i j) f = (f.0, f.1)
moved_below cells us ps (Not i) f = f
moved_below cells us ps (ShiftLeft i j) f = (f.0, f.1)
moved_below cells us ps (ShiftRight i j) f = (f.0, f.1)
moved_below cells us ps (ShiftSigned i j) f = (f.0, f.1)
moved_below cells us ps (Equal i j) f = (f.0, f.1)
moved_below cells us ps (Less i j) f = (f.0, f.1)
moved_below cells us ps (LessSigned i j) f = (f.0, f.1)
moved_below cells us ps (Select i j k) f = (f.0, f.2.0, f.2.1)
moved_below cells us ps (ZeroExtend w i) f = f.0
moved_below cells us ps (SignExtend w i) f = f.0
moved_below cells us ps (Truncate w i) f = f.0
moved_below cells us ps (Bit k i) f = f.0

-- it has the width
pub moved_width : (cells ws us : List ℕ) (ps : List TermId) (t : Term) → Each (λ k. slice_index us (at ps k) ≡ slice_index ws k) t → width_in cells us (moved ps t) ≡ width_in cells ws t
moved_width cells ws us ps (Constant w v) e = refl
moved_width cells ws us ps (Cell c) e = refl
moved_width cells ws us ps (Element first n i) e = refl
moved_width cells ws us ps (Add i j) e = e.0
moved_width cells ws us ps (Subtract i j) e = e.0
moved_width cells ws us ps (Multiply i j) e = e.0
moved_width cells ws us ps (Divide i j) e = e.0
moved_width cells ws us ps (Remainder i j) e = e.0
moved_width cells ws us ps (And i j) e = e.0
moved_width cells ws us ps (Or i j) e = e.0
moved_width cells ws us ps (Xor i j) e = e.0
moved_width cells ws us ps (Not i) e = e
moved_width cells ws us ps (ShiftLeft i j) e = e.0
moved_width cells ws us ps (ShiftRight i j) e = e.0
moved_width cells ws us ps (ShiftSigned i j) e = e.0
moved_width cells ws us ps (Equal i j) e = refl
moved_width cells ws us ps (Less i j) e = refl
moved_width cells ws us ps (LessSigned i j) e = refl
moved_width cells ws us ps (Select i j k) e = e.1
moved_width cells ws us ps (ZeroExtend w i) e = refl
moved_width cells ws us ps (SignExtend w i) e = refl
moved_width cells ws us ps (Truncate w i) e = refl
moved_width cells ws us ps (Bit k i) e = refl

-- and the value
two_same : (f : ℕ → ℕ → ℕ) (a b c d : ℕ) → a ≡ c → b ≡ d → f a b ≡ f c d
two_same f a b c d p q = ap (λ (x : ℕ). f x b) p ∙ ap (f c) q

three_same : (f : ℕ → ℕ → ℕ → ℕ) (a b c x y z : ℕ) → a ≡ x → b ≡ y → c ≡ z → f a b c ≡ f x y z
three_same f a b c x y z p q r = ap (λ (k : ℕ). f k b c) p ∙ two_same (f x) b c y z q r

element_at : List ℕ → ℕ → ℕ → ℕ → ℕ
element_at store first n v = if nat_lt v n then slice_index store (first + v) else 0

choose : ℕ → ℕ → ℕ → ℕ
choose a b c = if a == 1 then b else c

signed_less : ℕ → ℕ → ℕ → ℕ
signed_less w a b = truth (nat_lt (raised w a) (raised w b))

-- an operand's place has its width and its value
abbrev pub IsSame : List ℕ → List ℕ → List ℕ → List ℕ → List TermId → ℕ → Type 0
IsSame ws vs us xs ps k = (slice_index us (at ps k) ≡ slice_index ws k) × (slice_index xs (at ps k) ≡ slice_index vs k)

pub moved_value : (store ws vs us xs : List ℕ) (ps : List TermId) (t : Term) → Each (IsSame ws vs us xs ps) t → value_in store us xs (moved ps t) ≡ value_in store ws vs t
unfolding element_at choose signed_less
moved_value store ws vs us xs ps (Constant w v) e = refl
moved_value store ws vs us xs ps (Cell c) e = refl
moved_value store ws vs us xs ps (Element first n i) e = ap (element_at store first n) e.1
moved_value store ws vs us xs ps (Add i j) e = three_same sum_in _ _ _ _ _ _ e.0.0 e.0.1 e.1.1
moved_value store ws vs us xs ps (Subtract i j) e = three_same difference_in _ _ _ _ _ _ e.0.0 e.0.1 e.1.1
moved_value store ws vs us xs ps (Multiply i j) e = three_same product_in _ _ _ _ _ _ e.0.0 e.0.1 e.1.1
moved_value store ws vs us xs ps (Divide i j) e = two_same quotient_of _ _ _ _ e.0.1 e.1.1
moved_value store ws vs us xs ps (Remainder i j) e = two_same remainder_of _ _ _ _ e.0.1 e.1.1
moved_value store ws vs us xs ps (And i j) e = two_same bit_and _ _ _ _ e.0.1 e.1.1
moved_value store ws vs us xs ps (Or i j) e = two_same bit_or _ _ _ _ e.0.1 e.1.1
moved_value store ws vs us xs ps (Xor i j) e = two_same bit_xor _ _ _ _ e.0.1 e.1.1
moved_value store ws vs us xs ps (Not i) e = two_same complement_in _ _ _ _ e.0 e.1
moved_value store ws vs us xs ps (ShiftLeft i j) e = three_same left_in _ _ _ _ _ _ e.0.0 e.0.1 e.1.1
moved_value store ws vs us xs ps (ShiftRight i j) e = three_same right_in _ _ _ _ _ _ e.0.0 e.0.1 e.1.1
moved_value store ws vs us xs ps (ShiftSigned i j) e = three_same signed_right_in _ _ _ _ _ _ e.0.0 e.0.1 e.1.1
moved_value store ws vs us xs ps (Equal i j) e = two_same (λ a b. truth (a == b)) _ _ _ _ e.0.1 e.1.1
moved_value store ws vs us xs ps (Less i j) e = two_same (λ a b. truth (nat_lt a b)) _ _ _ _ e.0.1 e.1.1
moved_value store ws vs us xs ps (LessSigned i j) e = three_same signed_less _ _ _ _ _ _ e.0.0 e.0.1 e.1.1
moved_value store ws vs us xs ps (Select i j k) e = three_same choose _ _ _ _ _ _ e.0.1 e.1.1 e.2.1
moved_value store ws vs us xs ps (ZeroExtend w i) e = e.1
moved_value store ws vs us xs ps (SignExtend w i) e = two_same (λ a b. sign_extended a w b) _ _ _ _ e.0 e.1
moved_value store ws vs us xs ps (Truncate w i) e = ap (λ (a : ℕ). a % 2 ^ w) e.1
moved_value store ws vs us xs ps (Bit k i) e = ap (bit_of k) e.1

-- a term of a table, over the widths and values of the terms before it

pub record Over (cw store allw allv ws vs : List ℕ) (t : Term) (k : ℕ) : Type 0 where
  pub fits : Fits cw ws t
  pub many : length ws ≡ k
  pub same : (i : ℕ) → i < k → slice_index ws i ≡ slice_index allw i
  pub width : slice_index allw k ≡ width_in cw ws t
  pub seen : (i : ℕ) → i < k → slice_index vs i ≡ slice_index allv i
  pub value : slice_index allv k ≡ value_in store ws vs t

index_last : (xs : List ℕ) (w : ℕ) → slice_index (xs ++ w ∷ []) (length xs) ≡ w
index_last [] w = refl
index_last (x ∷ xs) w = index_last xs w

over_from : (cw store ws vs : List ℕ) (ts : List Term) (k : ℕ) (u : Term) → AllFit cw ws ts → length vs ≡ length ws → slice_get ts k ≡ Some u
    → (us : List ℕ) × ((xs : List ℕ) × Over cw store (widths_after cw ws ts) (values_after cw store ws vs ts) us xs u (length ws + k))
over_from cw store ws vs [] k u f e s = absurd cc
over_from cw store ws vs (t ∷ ts) zero u f e s =
    let q : t ≡ u = cc in
    let w = width_in cw ws t in
    let x = value_in store ws vs t in
    let lw : length (ws ++ w ∷ []) ≡ length ws + 1 = length-append ws (w ∷ []) in
    let lv : length (vs ++ x ∷ []) ≡ length vs + 1 = length-append vs (x ∷ []) in
    let z : length ws + 0 ≡ length ws = omega arith in
    let zv : length ws + 0 ≡ length vs = omega (arith, e) in
    let at : slice_index (widths_after cw (ws ++ w ∷ []) ts) (length ws) ≡ w
    = widths-keep cw (ws ++ w ∷ []) ts (length ws) (omega (arith, lw)) ∙ index_last ws w in
    let av : slice_index (values_after cw store (ws ++ w ∷ []) (vs ++ x ∷ []) ts) (length vs) ≡ x
    = values-keep cw store (ws ++ w ∷ []) (vs ++ x ∷ []) ts (length vs) (omega (arith, lv)) ∙ index_last vs x in
    let P : Term → Type 0 = λ y. Over cw store (widths_after cw ws (t ∷ ts)) (values_after cw store ws vs (t ∷ ts)) ws vs y (length ws + 0) in (
      ws,
      (
        vs,
        subst P q (record {
          fits = f.0;
          many = sym z;
          same = λ i less. sym (widths-keep cw ws (t ∷ ts) i (omega (arith, less, z)));
          width = ap (slice_index (widths_after cw (ws ++ w ∷ []) ts)) z ∙ at;
          seen = λ i less. sym (values-keep cw store ws vs (t ∷ ts) i (omega (arith, less, zv)));
          value = ap (slice_index (values_after cw store (ws ++ w ∷ []) (vs ++ x ∷ []) ts)) zv ∙ av;
        }),
      ),
    )
over_from cw store ws vs (t ∷ ts) (suc k) u f e s =
    let w = width_in cw ws t in
    let x = value_in store ws vs t in
    let lw : length (ws ++ w ∷ []) ≡ length ws + 1 = length-append ws (w ∷ []) in
    let lv : length (vs ++ x ∷ []) ≡ length vs + 1 = length-append vs (x ∷ []) in
    let r = over_from cw store (ws ++ w ∷ []) (vs ++ x ∷ []) ts k u f.1 (omega (arith, lw, lv, e)) s in
    let j : length (ws ++ w ∷ []) + k ≡ length ws + suc k = omega (arith, lw) in
    (r.0, (r.1.0, subst (λ (i : ℕ). Over cw store (widths_after cw (ws ++ w ∷ []) ts) (values_after cw store (ws ++ w ∷ []) (vs ++ x ∷ []) ts) r.0 r.1.0 u i) j r.1.1))

abbrev pub IsOver : Table → List ℕ → ℕ → Term → Type 0
IsOver table store k u =
    (us : List ℕ) × ((xs : List ℕ) × Over table.cells store (widths table) (values table store) us xs u k)

pub over : (table : Table) (store : List ℕ) (k : ℕ) (u : Term) → IsTable table → slice_get table.terms k ≡ Some u → IsOver table store k u
over table store k u h s =
    let r = over_from table.cells store [] [] table.terms k u h.terms refl s in
    let e : 0 + k ≡ k = omega arith in
    (r.0, (r.1.0, subst (λ (i : ℕ). Over table.cells store (widths table) (values table store) r.0 r.1.0 u i) e r.1.1))

pub there_below : (ts : List Term) (k : ℕ) (u : Term) → slice_get ts k ≡ Some u → k < length ts
there_below [] k u s = absurd cc
there_below (x ∷ ts) zero u s = omega arith
there_below (x ∷ ts) (suc k) u s = omega (arith, there_below ts k u s)
