-- The laws of tables and values.
use Rattle.std.proofs.Common.{◌≡◌, ℕ, ◌+◌, ◌<◌, length, List, [], ◌∷◌, ◌++◌, arith, ap, sym, ◌∙◌, refl, suc, zero, subst, slice_index, length-append}
use Rattle.bv_term.specs.declared.term.Term.{Term}
use Rattle.bv_term.specs.WellFormed.{width_in, widths_after, widths}
use Rattle.bv_term.specs.Values.{value_in, values_after, values}
use Rattle.bv_term.specs.Laws.{ValuesStay, WidthsStay, ValuesFit, OneForEach}
use Rattle.bv_term.proofs.Growing.{widths-append, length-widths}
use Rattle.bv_term.proofs.Bounds.{values-below, values-append}

-- an index within the first of two lists
pub index-append : (xs ys : List ℕ) (k : ℕ) → k < length xs → slice_index (xs ++ ys) k ≡ slice_index xs k
index-append [] ys k lt = absurd (omega arith)
index-append (x ∷ xs) ys zero lt = refl
index-append (x ∷ xs) ys (suc k) lt = index-append xs ys k (omega arith)

-- earlier widths and values stand where they stood
pub widths-keep : (cells ws : List ℕ) (ts : List Term) (k : ℕ) → k < length ws → slice_index (widths_after cells ws ts) k ≡ slice_index ws k
widths-keep cells ws [] k lt = refl
widths-keep cells ws (t ∷ ts) k lt =
    let l : length (ws ++ width_in cells ws t ∷ []) ≡ length ws + 1 = length-append ws (width_in cells ws t ∷ []) in
    widths-keep cells (ws ++ width_in cells ws t ∷ []) ts k (omega arith) ∙ index-append ws (width_in cells ws t ∷ []) k lt

pub values-keep : (cells store ws vs : List ℕ) (ts : List Term) (k : ℕ) → k < length vs → slice_index (values_after cells store ws vs ts) k ≡ slice_index vs k
values-keep cells store ws vs [] k lt = refl
values-keep cells store ws vs (t ∷ ts) k lt =
    let l : length (vs ++ value_in store ws vs t ∷ []) ≡ length vs + 1 = length-append vs (value_in store ws vs t ∷ []) in
    values-keep cells store (ws ++ width_in cells ws t ∷ []) (vs ++ value_in store ws vs t ∷ []) ts k (omega arith) ∙ index-append vs (value_in store ws vs t ∷ []) k lt

pub length-values : (cells store ws vs : List ℕ) (ts : List Term) → length (values_after cells store ws vs ts) ≡ length vs + length ts
length-values cells store ws vs [] = omega arith
length-values cells store ws vs (t ∷ ts) =
    let h = length-values cells store (ws ++ width_in cells ws t ∷ []) (vs ++ value_in store ws vs t ∷ []) ts in
    let l : length (vs ++ value_in store ws vs t ∷ []) ≡ length vs + 1 = length-append vs (value_in store ws vs t ∷ []) in
    omega (arith, h)

pub one_for_each : OneForEach
one_for_each table store =
    let w = length-widths table.cells [] table.terms in
    let v = length-values table.cells store [] [] table.terms in
    (omega (arith, w), omega (arith, v))

pub values_stay : ValuesStay
values_stay old new store t ext lt =
    let c : new.cells ≡ old.cells = ext.0 in
    let P : List ℕ → Type 0 = λ cells. slice_index (values_after cells store [] [] new.terms) t.0 ≡ slice_index (values_after old.cells store [] [] old.terms) t.0 in
    let n = length-values old.cells store [] [] old.terms in
    subst P (sym c)
    (ap (λ (ts : List Term). slice_index (values_after old.cells store [] [] ts) t.0) ext.1.1
    ∙ ap (λ (vs : List ℕ). slice_index vs t.0) (values-append old.cells store [] [] old.terms ext.1.0)
    ∙ values-keep old.cells store (widths old) (values old store) ext.1.0 t.0 (omega (arith, n, lt)))

pub widths_stay : WidthsStay
widths_stay old new t ext lt =
    let c : new.cells ≡ old.cells = ext.0 in
    let P : List ℕ → Type 0 = λ cells. slice_index (widths_after cells [] new.terms) t.0 ≡ slice_index (widths_after old.cells [] old.terms) t.0 in
    let n = length-widths old.cells [] old.terms in
    subst P (sym c)
    (ap (λ (ts : List Term). slice_index (widths_after old.cells [] ts) t.0) ext.1.1
    ∙ ap (λ (ws : List ℕ). slice_index ws t.0) (widths-append old.cells [] old.terms ext.1.0)
    ∙ widths-keep old.cells (widths old) ext.1.0 t.0 (omega (arith, n, lt)))

pub values_fit : ValuesFit
values_fit table store t h s lt =
    let b = values-below table.cells store [] [] table.terms s refl (λ k less. absurd (omega (arith, less))) h.terms in
    let n = length-widths table.cells [] table.terms in
    b.1 t.0 (omega (arith, n, lt))
