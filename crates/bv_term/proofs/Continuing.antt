-- The values of the first terms of a table, and how one more follows from them.
use Rattle.std.proofs.Common.{◌≡◌, ℕ, ◌+◌, ◌<◌, ◌≤◌, length, List, [], ◌∷◌, ◌++◌, arith, ap, sym, ◌∙◌, refl, suc, zero, subst, slice_index_or, All, take, drop, Option, Some, None, slice_get, length-append}
use Rattle.std.proofs.Math.Seq.{take-length, take-append_seam, drop-cons}
use Rattle.std.proofs.lemmas.List.{take-take, length-take-le, take-append-drop}
use Rattle.bv_term.specs.declared.term.Term.{Term}
use Rattle.bv_term.specs.declared.term.Term.TheVariants.{Constant}
use Rattle.bv_term.specs.WellFormed.{Table, IsTable, IsWidth, AllFit, width_in, widths_after, widths}
use Rattle.bv_term.specs.Values.{value_in, values_after, values, IsStore, AreBelow, FitsSome}
use Rattle.bv_term.specs.Laws.{ValuesBegin}
use Rattle.bv_term.proofs.Growing.{widths-append, length-widths, All-widths}
use Rattle.bv_term.proofs.Bounds.{values-append, AllFit-split, widths-first, value-step}
use Rattle.bv_term.proofs.Staying.{length-values}

-- the earlier values stand first
values-first : (cells store ws vs : List ℕ) (xs : List Term) → take (length vs) (values_after cells store ws vs xs) ≡ vs
values-first cells store ws vs [] = take-length vs
values-first cells store ws vs (x ∷ xs) =
    let w = ws ++ width_in cells ws x ∷ [] in
    let v = vs ++ value_in store ws vs x ∷ [] in
    let l : length v ≡ length vs + 1 = length-append vs (value_in store ws vs x ∷ []) in
    sym (take-take (length vs) (length v) (values_after cells store w v xs) (omega arith))
    ∙ ap (take (length vs)) (values-first cells store w v xs) ∙ take-append_seam vs (value_in store ws vs x ∷ [])

-- the first values are those of the first terms
pub values-take : (cells store : List ℕ) (ts : List Term) (k : ℕ) → k ≤ length ts
    → take k (values_after cells store [] [] ts) ≡ values_after cells store [] [] (take k ts)
values-take cells store ts k le =
    let n : length (take k ts) ≡ k = length-take-le k ts le in
    let m = length-values cells store [] [] (take k ts) in
    let e : length (values_after cells store [] [] (take k ts)) ≡ k = omega (arith, m, n) in
    let P : ℕ → Type 0 = λ j. take j (values_after cells store [] [] ts) ≡ values_after cells store [] [] (take k ts) in
    subst P e
    (ap (λ (xs : List Term). take (length (values_after cells store [] [] (take k ts))) (values_after cells store [] [] xs)) (sym (take-append-drop k ts))
    ∙ ap (take (length (values_after cells store [] [] (take k ts)))) (values-append cells store [] [] (take k ts) (drop k ts))
    ∙ values-first cells store (widths_after cells [] (take k ts)) (values_after cells store [] [] (take k ts)) (drop k ts))

-- a term that is found at a number
pub get-at : (ts : List Term) (i : ℕ) (d t : Term) → slice_get ts i ≡ Some t → (i < length ts) × (slice_index_or ts i d ≡ t)
get-at [] i d t e = absurd (cc)
get-at (x ∷ ts) zero d t e = (omega arith, cc)
get-at (x ∷ ts) (suc i) d t e = let r = get-at ts i d t e in (omega (arith, r.0), r.1)

-- the term of a number fits the terms before it
pub fits-at : (cells ws : List ℕ) (ts : List Term) (i : ℕ) (t : Term) → All IsWidth cells → AllFit cells [] ts → ws ≡ widths_after cells [] ts
    → i < length ts → t ≡ slice_index_or ts i t → FitsSome (take i ws) t × All IsWidth (take i ws) × (length (take i ws) ≡ i)
fits-at cells ws ts i t c f e lt at =
    let cut : take i ts ++ (t ∷ drop (suc i) ts) ≡ ts =
    ap (λ (z : List Term). take i ts ++ z) (ap (λ (z : Term). z ∷ drop (suc i) ts) at ∙ sym (drop-cons ts i t lt)) ∙ take-append-drop i ts in
    let F : List Term → Type 0 = λ ts. AllFit cells [] ts in
    let g = AllFit-split cells [] (take i ts) (t ∷ drop (suc i) ts) (subst F (sym cut) f) in
    let n : length (widths_after cells [] (take i ts)) ≡ 0 + length (take i ts) = length-widths cells [] (take i ts) in
    let m : length (take i ts) ≡ i = length-take-le i ts (omega arith) in
    let k : length (widths_after cells [] (take i ts)) ≡ i = omega arith in
    let Q : ℕ → Type 0 = λ j. take j (widths_after cells (widths_after cells [] (take i ts)) (t ∷ drop (suc i) ts)) ≡ widths_after cells [] (take i ts) in
    let first : take i ws ≡ widths_after cells [] (take i ts) =
    ap (take i) (e ∙ sym (ap (widths_after cells []) cut) ∙ widths-append cells [] (take i ts) (t ∷ drop (suc i) ts))
    ∙ subst Q k (widths-first cells (widths_after cells [] (take i ts)) (t ∷ drop (suc i) ts)) in
    let all = All-widths cells [] (take i ts) c (λ k d less. absurd (omega (arith, less))) g.0 in
    let W : List ℕ → Type 0 = λ w. FitsSome w t × All IsWidth w × (length w ≡ i) in
    subst W (sym first) ((cells, g.1.0), all, k)

-- a number below the length has a term
there-at : (ts : List Term) (i : ℕ) → i < length ts → (t : Term) × (slice_get ts i ≡ Some t)
there-at [] i lt = absurd (omega arith)
there-at (x ∷ ts) zero lt = (x, refl)
there-at (x ∷ ts) (suc i) lt = there-at ts i (omega arith)

same-at : (ts : List Term) (i : ℕ) (d : Term) → i < length ts → slice_index_or ts i d ≡ slice_index_or ts i (slice_index_or ts i d)
same-at [] i d lt = absurd (omega arith)
same-at (x ∷ ts) zero d lt = refl
same-at (x ∷ ts) (suc i) d lt = same-at ts i d (omega arith)

-- what holds as the value of a table's term is computed from those before it
pub next-value : (table : Table) (store vs : List ℕ) (i : ℕ) → IsTable table → IsStore table.cells store → i < length table.terms
    → vs ≡ take i (values table store)
    → (length vs ≡ i) × AreBelow (take i (widths table)) vs
    × ((v : ℕ) → ((t : Term) → slice_get table.terms i ≡ Some t → v ≡ value_in store (take i (widths table)) vs t) → vs ++ v ∷ [] ≡ take (i + 1) (values table store))
next-value table store vs i h s lt e =
    let ts = table.terms in
    let ev : vs ≡ values_after table.cells store [] [] (take i ts) = e ∙ values-take table.cells store ts i (omega arith) in
    let t = slice_index_or ts i (Constant 0 0) in
    let step = value-step table.cells store (widths table) vs ts i t h.cells s h.terms refl lt (same-at ts i (Constant 0 0) lt) ev in
    let fits = fits-at table.cells (widths table) ts i t h.cells h.terms refl lt (same-at ts i (Constant 0 0) lt) in
    let n : i + 1 ≡ suc i = omega arith in
    let P : ℕ → Type 0 = λ k. vs ++ value_in store (take i (widths table)) vs t ∷ [] ≡ take k (values table store) in
    let more : P (i + 1) = subst P (sym n) (step.4 ∙ sym (values-take table.cells store ts (suc i) (omega arith))) in
    let (u, g) = there-at ts i lt in (
      step.1 ∙ fits.2,
      step.3,
      λ v is. ap (λ (x : ℕ). vs ++ x ∷ []) (is u g ∙ ap (λ (x : Term). value_in store (take i (widths table)) vs x) (sym (get-at ts i (Constant 0 0) u g).1)) ∙ more,
    )

-- what a table keeps says of its term of a number
pub known-at : (table : Table) (cells ws ds : List ℕ) (terms : List Term) (i : ℕ) (t : Term)
    → IsTable (record { cells = cells; terms = terms }) → ws ≡ widths_after cells [] terms → record { cells = cells; terms = terms } ≡ table
    → ds ≡ ws → i < length table.terms → t ≡ slice_index_or terms i t
    → FitsSome (take i ds) t × All IsWidth (take i ds) × (length (take i ds) ≡ i) × (take i ds ≡ take i (widths table))
    × ((u : Term) → slice_get table.terms i ≡ Some u → t ≡ u)
known-at table cells ws ds terms i t h e view ed lt at =
    let lt0 : i < length terms = omega (arith, lt, ap (λ (x : Table). length x.terms) view) in
    let f = fits-at cells ws terms i t h.cells h.terms e lt0 at in
    let P : List ℕ → Type 0 = λ w. FitsSome (take i w) t × All IsWidth (take i w) × (length (take i w) ≡ i) in
    let g : P ds = subst P (sym ed) f in (
      g.0,
      g.1,
      g.2,
      ap (take i) (ed ∙ e ∙ ap widths view),
      λ u is. at ∙ (get-at terms i t u (ap (λ (x : Table). slice_get x.terms i) view ∙ is)).1,
    )

-- a table that is seen keeps what its parts keep
pub seen-table : (table : Table) (cells : List ℕ) (terms : List Term) → record { cells = cells; terms = terms } ≡ table
    → IsTable (record { cells = cells; terms = terms }) → IsTable table
seen-table table cells terms view h = subst IsTable view h

-- so many first values are so many
pub length-first : (table : Table) (store vs : List ℕ) → vs ≡ take (length vs) (values table store) → length vs ≤ length table.terms
length-first table store vs e =
    let n = length-values table.cells store [] [] table.terms in
    omega (arith, n, ap length e, at-most (length vs) (values table store))
  where
    at-most : (k : ℕ) (xs : List ℕ) → length (take k xs) ≤ length xs
    at-most zero xs = omega arith
    at-most (suc k) [] = omega arith
    at-most (suc k) (x ∷ xs) = let h = at-most k xs in omega (arith, h)

-- and all are the values of the table
pub values-all : (table : Table) (store vs : List ℕ) (i : ℕ) → length table.terms ≤ i → vs ≡ take i (values table store) → vs ≡ values table store
values-all table store vs i le e =
    let n = length-values table.cells store [] [] table.terms in
    e ∙ past (values table store) i (omega (arith, n))
  where
    past : (xs : List ℕ) (k : ℕ) → length xs ≤ k → take k xs ≡ xs
    past [] zero l = refl
    past [] (suc k) l = refl
    past (x ∷ xs) zero l = absurd (omega arith)
    past (x ∷ xs) (suc k) l = ap (λ (ys : List ℕ). x ∷ ys) (past xs k (omega arith))

-- the values of a table begin those of one that grew from it
pub values_begin : ValuesBegin
values_begin old new store ext =
    let more = ext.1.0 in
    let n = length-values old.cells store [] [] old.terms in
    let m : length (values old store) ≡ length old.terms = omega (arith, n) in
    let at : (k : ℕ) → k ≡ length old.terms → values old store ≡ take k (values new store) =
    λ k e.
    sym
    (ap (λ (cells : List ℕ). take k (values_after cells store [] [] new.terms)) ext.0
    ∙ ap (λ (ts : List Term). take k (values_after old.cells store [] [] ts)) ext.1.1
    ∙ values-take old.cells store (old.terms ++ more) k (omega (arith, e, length-append old.terms more))
    ∙ ap (λ (j : ℕ). values_after old.cells store [] [] (take j (old.terms ++ more))) e
    ∙ ap (values_after old.cells store [] []) (take-append_seam old.terms more)) in
    (m, at (length (values old store)) m)
