-- Copies of terms: they stay as the table grows, and a term over copies is a copy.
use Rattle.std.proofs.Common.{◌≡◌, ℕ, ◌+◌, ◌<◌, Bool, true, List, [], ◌∷◌, ◌++◌, length, refl, sym, ap, ◌∙◌, subst, arith, Some, Result, Ok, Err, slice_get, slice_index, slice_index_or, inl, inr, length-append, append_assoc}
use Rattle.std.specs.Prelude.{IfOk, OnErr}
use Rattle.std.proofs.lemmas.Bool.{cases_lt}
use Rattle.std.proofs.lemmas.List.{append-nil, get_or_append_left, get_or-append-add}
use Rattle.bv_term.specs.declared.term.TermId.{TermId}
use Rattle.bv_term.specs.declared.term.Term.{Term}
use Rattle.bv_term.specs.WellFormed.{Table, IsTable, FitsTable, Fits, widths, width_in}
use Rattle.bv_term.specs.Values.{values, value}
use Rattle.bv_term.specs.Laws.{IsPut, Extends}
use Rattle.bv_term.proofs.Staying.{values_stay, widths_stay}
use Rattle.bv_term.proofs.Growing.{length-widths}
use Rattle.invariant_map.specs.Copies.{Each, moved, IsCopy, AreCopies, AreOperandsCopied, IsClosed, is_marked}
use Rattle.invariant_map.proofs.Moves.{at, each_map, each_two, fits_below, moved_fits, moved_below, moved_width, moved_value, IsAlike, IsSame, over, there_below}

pub extends_none : (a : Table) → Extends a a
extends_none a = (refl, ([], sym (append-nil a.terms)))

pub extends_twice : (a b c : Table) → Extends a b → Extends b c → Extends a c
extends_twice a b c g h =
    (h.0 ∙ g.0, (g.1.0 ++ h.1.0, h.1.1 ∙ ap (λ (ts : List Term). ts ++ h.1.0) g.1.1 ∙ append_assoc a.terms g.1.0 h.1.0))

pub put_extends : {E : Type 0} (r : Result TermId E) (a b : Table) (t : Term) → IfOk r (λ id. IsPut a b t) → OnErr r (b ≡ a) → Extends a b
put_extends (Ok x) a b t p q = elim p [
  | inl e ↦ subst (λ (c : Table). Extends a c) (sym e) (extends_none a)
  | inr e ↦ subst (λ (c : Table). Extends a c) (sym e.0) (refl, (t ∷ [], refl))
]
put_extends (Err x) a b t p q = subst (λ (c : Table). Extends a c) (sym q) (extends_none a)

pub many : (a : Table) → length (widths a) ≡ length a.terms
many a = omega (arith, length-widths a.cells [] a.terms)

pub longer : (a b : Table) (t : TermId) → Extends a b → t.0 < length a.terms → t.0 < length b.terms
longer a b t g lt = omega (arith, lt, ap length g.1.1, length-append a.terms g.1.0)

pub copy_stays : (old a b : Table) (k : ℕ) (t : TermId) → Extends a b → IsCopy old a k t → IsCopy old b k t
copy_stays old a b k t g h = record {
  there = longer a b t g h.there;
  width = widths_stay a b t g h.there ∙ h.width;
  told = λ store. values_stay a b store t g h.there ∙ h.told store;
}

-- the copy of a term fits the table of the copies of its operands
pub copy_fits : (old a : Table) (ps : List TermId) (k : ℕ) (u : Term) → IsTable old → slice_get old.terms k ≡ Some u → a.cells ≡ old.cells → AreOperandsCopied old a ps k
    → FitsTable a (moved ps u)
copy_fits old a ps k u is s same copied =
    let o = (over old [] k u is s).1.1 in
    let ws = (over old [] k u is s).0 in
    let alike : Each (IsAlike ws (widths a) ps) u =
    each_map (λ j. (j < length ws) × IsCopy old a j (slice_index_or ps j (record { 0 = 0 }))) (IsAlike ws (widths a) ps) u
    (λ j h. (omega (arith, h.1.there, many a), h.1.width ∙ sym (o.same j (omega (arith, h.0, o.many)))))
    (each_two (λ j. j < length ws) (λ j. IsCopy old a j (slice_index_or ps j (record { 0 = 0 }))) u (fits_below old.cells ws u o.fits) (copied u s)) in
    let f : Fits old.cells (widths a) (moved ps u) = moved_fits old.cells ws (widths a) ps u o.fits alike in
    subst (λ (cs : List ℕ). Fits cs (widths a) (moved ps u)) (sym same) f

-- the operands of a term are below it
pub operands_below : (old : Table) (k : ℕ) (u : Term) → IsTable old → slice_get old.terms k ≡ Some u → Each (λ j. j < k) u
operands_below old k u is s =
    let o = (over old [] k u is s).1.1 in
    let ws = (over old [] k u is s).0 in
    each_map (λ j. j < length ws) (λ j. j < k) u (λ j h. omega (arith, h, o.many)) (fits_below old.cells ws u o.fits)

-- an operand of a term is copied in the new table, below the copy
abbrev KnownAt : Table → Table → List TermId → ℕ → ℕ → ℕ → Type 0
KnownAt old b ps k id j = (j < k) × (at ps j < id) × IsCopy old b j (slice_index_or ps j (record { 0 = 0 }))

-- a term over copies that was put is a copy
pub copy_made : (old a b : Table) (ps : List TermId) (k : ℕ) (u : Term) (id : TermId) → IsTable old → slice_get old.terms k ≡ Some u → b.cells ≡ old.cells → AreOperandsCopied old a ps k
    → Extends a b → IsTable b → slice_get b.terms id.0 ≡ Some (moved ps u) → IsCopy old b k id
copy_made old a b ps k u id is s same copied g isb sb = record {
  there = there_below b.terms id.0 (moved ps u) sb;
  width = width;
  told = told;
}
  where
    known : Each (KnownAt old b ps k id.0) u
    known =
        let ob = (over b [] id.0 (moved ps u) isb sb).1.1 in
        let us = (over b [] id.0 (moved ps u) isb sb).0 in
        let below : Each (λ j. j < k) u = operands_below old k u is s in
        let low : Each (λ j. at ps j < length us) u = moved_below b.cells us ps u ob.fits in
        let C : ℕ → Type 0 = λ j. IsCopy old a j (slice_index_or ps j (record { 0 = 0 })) in
        let L : ℕ → Type 0 = λ j. at ps j < length us in
        let B : ℕ → Type 0 = λ j. j < k in
        each_map (λ j. B j × (L j × C j)) (KnownAt old b ps k id.0) u
        (λ j h. (h.0, omega (arith, h.1.0, ob.many), copy_stays old a b j (slice_index_or ps j (record { 0 = 0 })) g h.1.1))
        (each_two B (λ j. L j × C j) u below (each_two L C u low (copied u s)))

    width : slice_index (widths b) id.0 ≡ slice_index (widths old) k
    width =
        let ob = (over b [] id.0 (moved ps u) isb sb).1.1 in
        let us = (over b [] id.0 (moved ps u) isb sb).0 in
        let oo = (over old [] k u is s).1.1 in
        let ws = (over old [] k u is s).0 in
        let e : Each (λ j. slice_index us (at ps j) ≡ slice_index ws j) u =
        each_map (KnownAt old b ps k id.0) (λ j. slice_index us (at ps j) ≡ slice_index ws j) u (λ j h. ob.same (at ps j) h.1 ∙ h.2.width ∙ sym (oo.same j h.0)) known in
        ob.width ∙ moved_width b.cells ws us ps u e ∙ ap (λ (cs : List ℕ). width_in cs ws u) same ∙ sym oo.width

    told : (store : List ℕ) → value b store id ≡ slice_index (values old store) k
    told store =
        let ob = (over b store id.0 (moved ps u) isb sb).1.1 in
        let us = (over b store id.0 (moved ps u) isb sb).0 in
        let xs = (over b store id.0 (moved ps u) isb sb).1.0 in
        let oo = (over old store k u is s).1.1 in
        let ws = (over old store k u is s).0 in
        let vs = (over old store k u is s).1.0 in
        let e : Each (IsSame ws vs us xs ps) u =
        each_map (KnownAt old b ps k id.0) (IsSame ws vs us xs ps) u
        (λ j h. (ob.same (at ps j) h.1 ∙ h.2.width ∙ sym (oo.same j h.0), ob.seen (at ps j) h.1 ∙ h.2.told store ∙ sym (oo.seen j h.0))) known in
        ob.value ∙ moved_value store ws vs us xs ps u e ∙ sym oo.value

-- of a call's result
pub copy_result : {E : Type 0} (r : Result TermId E) (old a b : Table) (ps : List TermId) (k : ℕ) (u : Term) → IsTable old → slice_get old.terms k ≡ Some u → b.cells ≡ old.cells → AreOperandsCopied old a ps k
    → Extends a b → IsTable b → IfOk r (λ id. slice_get b.terms id.0 ≡ Some (moved ps u)) → IfOk r (λ id. IsCopy old b k id)
copy_result (Ok id) old a b ps k u is s same copied g isb sb = copy_made old a b ps k u id is s same copied g isb sb
copy_result (Err e) old a b ps k u is s same copied g isb sb = tt

-- the operands of a marked term are copied where those before it are copied that are marked
pub operands_copied : (old a : Table) (marks : List Bool) (ps : List TermId) (k : ℕ) → IsTable old → length ps ≡ k → IsClosed old.terms marks 0 → is_marked marks k ≡ true
    → AreCopies old a marks ps → AreOperandsCopied old a ps k
operands_copied old a marks ps k is n closed marked copies t s =
    each_map (λ j. (j < k) × (is_marked marks j ≡ true)) (λ j. IsCopy old a j (slice_index_or ps j (record { 0 = 0 }))) t
    (λ j h. copies j (record { 0 = 0 }) (omega (arith, h.0, n)) h.1)
    (each_two (λ j. j < k) (λ j. is_marked marks j ≡ true) t (operands_below old k t is s) (closed k t (omega arith) s marked))

pub copies_none : (old a : Table) (marks : List Bool) → AreCopies old a marks []
copies_none old a marks k d lt e = absurd (omega (arith, lt))

pub copies_stay : (old a b : Table) (marks : List Bool) (ps : List TermId) → Extends a b → AreCopies old a marks ps → AreCopies old b marks ps
copies_stay old a b marks ps g h k d lt e = copy_stays old a b k (slice_index_or ps k d) g (h k d lt e)

pub copies_push : (old a : Table) (marks : List Bool) (ps : List TermId) (id : TermId) → (is_marked marks (length ps) ≡ true → IsCopy old a (length ps) id)
    → AreCopies old a marks ps → AreCopies old a marks (ps ++ id ∷ [])
copies_push old a marks ps id new h k d lt e = elim (cases_lt k (length ps)) [
  | inl less ↦ subst (λ (i : TermId). IsCopy old a k i) (sym (get_or_append_left ps (id ∷ []) d k less)) (h k d less e)
  | inr le ↦
      let q : length ps ≡ k = omega (arith, le, lt, length-append ps (id ∷ [])) in
      let z : length ps + 0 ≡ k = omega (arith, q) in
      let here : slice_index_or (ps ++ id ∷ []) k d ≡ id = ap (λ (j : ℕ). slice_index_or (ps ++ id ∷ []) j d) (sym z) ∙ get_or-append-add ps (id ∷ []) 0 d in
      subst (λ (i : TermId). IsCopy old a k i) (sym here) (subst (λ (j : ℕ). IsCopy old a j id) q (new (ap (is_marked marks) q ∙ e)))
]
