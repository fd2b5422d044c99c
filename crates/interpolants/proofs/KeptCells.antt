-- A formula that names the cells of its cut alone.
use Rattle.std.proofs.Common.{◌≡◌, ℕ, ◌+◌, ◌<◌, ◌≤◌, ◌⊎◌, inl, inr, Bool, true, false, List, [], ◌∷◌, ◌++◌, length, length-append, replicate, Some, Result, Ok, Err, slice_get, zero, suc, refl, sym, ap, ◌∙◌, subst, arith}
use Rattle.std.specs.Prelude.{All, IfOk, slice_set}
use Rattle.std.proofs.lemmas.Bool.{both_ways, cases_eq, cases_lt}
use Rattle.std.proofs.lemmas.List.{length-set, get_or-set_same, get_or-set_other}
use Rattle.std.proofs.lemmas.Option.{get_or_from_slice_get, slice_get_within}
use Rattle.bv_term.specs.declared.term.TermId.{TermId}
use Rattle.bv_term.specs.WellFormed.{Table}
use Rattle.bv_term.specs.Values.{value}
use Rattle.bv_term.specs.Laws.{Extends}
use Rattle.formula_diagrams.specs.Writings.{AnyCell, IsOneBit, IsPlain, IsPlain.is_constant}
use Rattle.formula_diagrams.proofs.Putting.{plain-stays}
use Rattle.path_query.specs.declared.query.Bundle.{Bundle}
use Rattle.path_query.specs.declared.query.PathQuery.{PathQuery}
use Rattle.path_query.specs.Facts.{IsBundle}
use Rattle.prop.specs.declared.Lit.{Lit}
use Rattle.resolution_log.specs.declared.Chain.{Chain}
use Rattle.term_copy.specs.Copies.{number_in}
use Rattle.term_masks.specs.Masks.{AreMasked, IsKept, is_kept, masked}
use Rattle.term_masks.proofs.Masking.{masked_keeps, plain_more}
use Rattle.interpolants.specs.declared.items.Placed.{Placed}
use Rattle.interpolants.specs.CutMeanings.{IsCutFormula}
use Rattle.interpolants.specs.Cuts.{IsEnd}
use Rattle.interpolants.specs.Laws.{SameOn}
use Rattle.interpolants.specs.Meanings.{Agree, read, said}
use Rattle.interpolants.specs.NamedCells.{AreKeptCells, AreNamed, IsCellOf, IsMask, IsNamedAt}
use Rattle.interpolants.specs.Placings.{bits_of}
use Rattle.interpolants.specs.Rules.{cut_truth}
use Rattle.interpolants.proofs.Alike.{cut-alike, reads-alike}
use Rattle.interpolants.proofs.Along.{same-said}
use Rattle.interpolants.proofs.Listing.{get-end}

-- marks of cells
none-kept : (n c : ℕ) → is_kept (replicate n false) c ≡ false
none-kept zero c = refl
none-kept (suc n) zero = refl
none-kept (suc n) (suc c) = none-kept n c

pub mask-none : (bundles : List Bundle) (kept : List Bool) (n : ℕ) → kept ≡ replicate n false → IsMask bundles 0 kept
mask-none bundles kept n e = record {
  all = λ k b lt. absurd (omega (arith, lt));
  only = λ c h. absurd (both_ways (is_kept kept c) (ap (λ (m : List Bool). is_kept m c) e ∙ none-kept n c) h);
}

set-keeps : (m : List Bool) (i j : ℕ) → is_kept m j ≡ true → is_kept (slice_set m i true) j ≡ true
set-keeps [] i j e = e
set-keeps (x ∷ m) zero zero e = refl
set-keeps (x ∷ m) zero (suc j) e = e
set-keeps (x ∷ m) (suc i) zero e = e
set-keeps (x ∷ m) (suc i) (suc j) e = set-keeps m i j e

pub mask-more : (bundles : List Bundle) (kept new : List Bool) (n : ℕ) (b : Bundle) → slice_get bundles n ≡ Some b → new ≡ slice_set kept b.cell true
    → IsMask bundles n kept → IsMask bundles (n + 1) new
mask-more bundles kept new n b g e h = subst (IsMask bundles (n + 1)) (sym e) (record {
  all = λ k d lt at w. every k d lt at (omega (arith, w, length-set kept b.cell true)) (cases_lt k n);
  only = λ c is. one c is (cases_eq c b.cell);
})
  where
    every : (k : ℕ) (d : Bundle) → k < n + 1 → slice_get bundles k ≡ Some d → d.cell < length kept → (k < n) ⊎ (n ≤ k)
        → IsKept (slice_set kept b.cell true) d.cell
    every k d lt at w (inl less) = set-keeps kept b.cell d.cell (h.all k d less at w)
    every k d lt at w (inr le) =
        let z : k ≡ n = omega (arith, lt, le) in
        let here : slice_get bundles n ≡ Some d = subst (λ (m : ℕ). slice_get bundles m ≡ Some d) z at in
        let same : d ≡ b = cc in
        subst (λ (x : Bundle). IsKept (slice_set kept b.cell true) x.cell) (sym same)
        (get_or-set_same kept b.cell true false (subst (λ (x : Bundle). x.cell < length kept) same w))

    one : (c : ℕ) → IsKept (slice_set kept b.cell true) c → (c ≡ b.cell) ⊎ (c ≡ b.cell → ⊥) → IsCellOf bundles c
    one c is (inl q) = (n, (b, (g, sym q)))
    one c is (inr ne) = h.only c (sym (get_or-set_other kept b.cell c true false ne) ∙ is)

pub mask-whole : (bundles : List Bundle) (kept : List Bool) (n : ℕ) → n ≡ length bundles → IsMask bundles n kept → IsMask bundles (length bundles) kept
mask-whole bundles kept n e h = subst (λ (m : ℕ). IsMask bundles m kept) e h

pub kept-cells : (cells : List ℕ) (bundles : List Bundle) (kept ks : List Bool) (n : ℕ) → ks ≡ kept → length kept ≡ n → n ≡ length cells
    → IsMask bundles (length bundles) kept → All (IsBundle cells) bundles → AreKeptCells ks bundles
kept-cells cells bundles kept ks n e long many h all k b g =
    let lt = slice_get_within bundles k b g in
    let is : IsBundle cells b = subst (IsBundle cells) (get_or_from_slice_get bundles k b b g) (all k b lt) in
    subst (λ (m : List Bool). IsKept m b.cell) (sym e) (h.all k b lt g (omega (arith, is.0, long, many)))

-- a formula among masked terms
module _ (a b : Table) (kept : List Bool) (to : List TermId) (t u : TermId) (h : AreMasked a b kept to) (long : length to ≡ length a.terms)
    (named : u ≡ number_in to t) (one : IsOneBit a t) where
  there : t.0 < length to
  there = let lt = one.there in omega (arith, lt, long)

  pub kept-plain : IsPlain b (IsKept kept) u
  kept-plain = subst (IsPlain b (IsKept kept)) (sym named) (h.plain t there one.plain)

  pub kept-bit : IsOneBit b u
  kept-bit = subst (IsOneBit b) (sym named) (record {
    there = h.there t there;
    width = h.widths_are t there ∙ one.width;
    plain = plain_more b (IsKept kept) AnyCell (number_in to t) (λ c k. tt) (h.plain t there one.plain);
  })

  kept-value : (store : List ℕ) → value b store u ≡ value a (masked kept store) t
  kept-value store = ap (value b store) named ∙ h.values_are store t there one.plain

  pub kept-formula : (bundles : List Bundle) (clauses : List (List Lit)) (log : List Chain) (edge : ℕ) → AreKeptCells kept bundles
      → IsCutFormula a clauses log edge (bits_of bundles) t → IsCutFormula b clauses log edge (bits_of bundles) u
  kept-formula bundles clauses log edge all f shared store =
      let low : List ℕ = masked kept store in
      let bits : List Placed = bits_of bundles in
      let same : SameOn bundles store low = λ k x g. masked_keeps kept store x.cell (all k x g) in
      let says : (k : ℕ) (p : Placed) → slice_get bits k ≡ Some p → said store p ≡ said low p = same-said bundles store low same in
      let alike : cut_truth clauses log edge (read bits store) ≡ cut_truth clauses log edge (read bits low) =
      cut-alike clauses log edge (read bits store) (read bits low) (λ x before behind. reads-alike bits store low x says) in
      let w = f shared low in (
        λ holds.
            let both = w.0 (sym (kept-value store) ∙ holds) in
            let agree : Agree bits store = λ i j p q g k e. says i p g ∙ both.0 i j p q g k e ∙ sym (says j q k) in
            (agree, alike ∙ both.1),
        λ both.
            let agree : Agree bits low = λ i j p q g k e. sym (says i p g) ∙ both.0 i j p q g k e ∙ says j q k in
            kept-value store ∙ w.1 (agree, sym alike ∙ both.1),
      )

-- it is named at its cut
pub named-at : {E : Type 0} (r : Result TermId E) (table : Table) (q : PathQuery) (k : ℕ) (bundles : List Bundle) (kept ks : List Bool)
    → slice_get q.cuts k ≡ Some bundles → ks ≡ kept → IsMask bundles (length bundles) kept → IfOk r (IsPlain table (IsKept ks)) → IfOk r (IsNamedAt table q k)
named-at (Ok t) table q k bundles kept ks g e h p = λ others o.
    let same : bundles ≡ others = cc in
    subst (λ (bs : List Bundle). IsPlain table (IsCellOf bs) t) same
    (plain_more table (IsKept ks) (IsCellOf bundles) t (λ c is. h.only c (subst (λ (m : List Bool). IsKept m c) e is)) p)
named-at (Err x) table q k bundles kept ks g e h p = tt

-- lists of them
pub named-end : (table : Table) (q : PathQuery) (k n : ℕ) (t : TermId) → IsEnd table n t → IsNamedAt table q k t
named-end table q k n t e bundles g = is_constant 1 n e

pub named-first : (table : Table) (q : PathQuery) (t : TermId) (fs : List TermId) → fs ≡ t ∷ [] → IsEnd table 1 t → AreNamed table q fs
named-first table q t fs e end = subst (AreNamed table q) (sym e) one
  where
    one : AreNamed table q (t ∷ [])
    one zero u g = let same : t ≡ u = cc in subst (IsNamedAt table q 0) same (named-end table q 0 1 t end)
    one (suc k) u g = absurd cc

get-before : (xs ys : List TermId) (k : ℕ) (t : TermId) → k < length xs → slice_get (xs ++ ys) k ≡ Some t → slice_get xs k ≡ Some t
get-before [] ys k t lt h = absurd (omega (arith, lt))
get-before (x ∷ xs) ys zero t lt h = h
get-before (x ∷ xs) ys (suc k) t lt h = get-before xs ys k t (omega (arith, lt)) h

pub named-push : (a b : Table) (q : PathQuery) (fs newer : List TermId) (n : ℕ) (t : TermId) → Extends a b → AreNamed a q fs → n ≡ length fs
    → IsNamedAt b q n t → newer ≡ fs ++ t ∷ [] → AreNamed b q newer
named-push a b q fs newer n t ext named long new e = subst (AreNamed b q) (sym e) (λ k u g. way k u g (cases_lt k (length fs)))
  where
    way : (k : ℕ) (u : TermId) → slice_get (fs ++ t ∷ []) k ≡ Some u → (k < length fs) ⊎ (length fs ≤ k) → IsNamedAt b q k u
    way k u g (inl lt) = λ bundles o. plain-stays a b (IsCellOf bundles) u ext (named k u (get-before fs (t ∷ []) k u lt g) bundles o)
    way k u g (inr le) =
        let w = slice_get_within (fs ++ t ∷ []) k u g in
        let z : k ≡ length fs = omega (arith, le, w, length-append fs (t ∷ [])) in
        let i : slice_get (fs ++ t ∷ []) (length fs) ≡ Some u = subst (λ (m : ℕ). slice_get (fs ++ t ∷ []) m ≡ Some u) z g in
        let j : slice_get (fs ++ t ∷ []) (length fs) ≡ Some t = get-end fs t in
        let same : t ≡ u = cc in
        subst (λ (x : TermId). IsNamedAt b q k x) same (subst (λ (m : ℕ). IsNamedAt b q m t) (long ∙ sym z) new)
