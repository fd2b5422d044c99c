-- Terms that are put into a table: their widths and their values.
use Rattle.std.proofs.Common.{◌≡◌, ℕ, ◌+◌, ◌-◌, ◌<◌, ◌≤◌, Bool, true, false, not, ◌&&◌, ◌||◌, ◌==◌, List, [], ◌∷◌, ◌++◌, length, refl, sym, ap, ◌∙◌, subst, zero, suc, arith, Some, Result, Ok, Err, slice_get, slice_index, ◌⊎◌, inl, inr, length-append, if◌then◌else◌, ◌%◌, ◌/◌, ◌^◌, append_assoc, bit_and, bit_or}
use Rattle.std.specs.Prelude.{IfOk, OnErr}
use Rattle.std.proofs.lemmas.List.{append-nil}
use Rattle.std.proofs.Math.Nat.{mod-lt}
use Rattle.bv_term.specs.declared.term.TermId.{TermId}
use Rattle.bv_term.specs.declared.term.Term.{Term}
use Rattle.bv_term.specs.declared.term.Term.TheVariants.{Constant, Cell, And, Or, Not, Bit}
use Rattle.bv_term.specs.Numbers.{truth, bit_of, complement_in}
use Rattle.bv_term.specs.WellFormed.{Table, IsTable, Fits, FitsTable, AllFit, width_in, widths_after, widths, with_term, IsWidth}
use Rattle.bv_term.specs.Values.{value_in, values_after, values, value}
use Rattle.bv_term.specs.Laws.{IsPut, Extends}
use Rattle.bv_term.proofs.Staying.{widths-keep, values-keep, values_stay, widths_stay}
use Rattle.bv_term.proofs.Growing.{length-widths}
use Rattle.formula_diagrams.specs.declared.items.BitOf.{BitOf}
use Rattle.formula_diagrams.specs.declared.writing.Side.{Side}
use Rattle.formula_diagrams.specs.declared.writing.Side.TheVariants.{Never, Always, Written}
use Rattle.formula_diagrams.specs.Shape.{IsBitIn}
use Rattle.formula_diagrams.specs.Truths.{choice, is_set}
use Rattle.formula_diagrams.specs.Writings.{IsPlain, IsPlain.is_constant, IsPlain.is_cell, IsPlain.is_bit, IsPlain.is_not, IsPlain.is_and, IsPlain.is_or, IsOneBit, IsTruth, IsSide, SideTells}

-- a term of a table, over the widths and values of the terms before it
record Over (cw store allw allv ws vs : List ℕ) (t : Term) (k : ℕ) : Type 0 where
  fits : Fits cw ws t
  many : length ws ≡ k
  same : (i : ℕ) → i < k → slice_index ws i ≡ slice_index allw i
  width : slice_index allw k ≡ width_in cw ws t
  seen : (i : ℕ) → i < k → slice_index vs i ≡ slice_index allv i
  value : slice_index allv k ≡ value_in store ws vs t

index-last : (xs : List ℕ) (w : ℕ) → slice_index (xs ++ w ∷ []) (length xs) ≡ w
index-last [] w = refl
index-last (x ∷ xs) w = index-last xs w

over-from : (cw store ws vs : List ℕ) (ts : List Term) (k : ℕ) (u : Term) → AllFit cw ws ts → length vs ≡ length ws → slice_get ts k ≡ Some u
    → (us : List ℕ) × ((xs : List ℕ) × Over cw store (widths_after cw ws ts) (values_after cw store ws vs ts) us xs u (length ws + k))
over-from cw store ws vs [] k u f e s = absurd cc
over-from cw store ws vs (t ∷ ts) zero u f e s =
    let q : t ≡ u = cc in
    let w = width_in cw ws t in
    let x = value_in store ws vs t in
    let lw : length (ws ++ w ∷ []) ≡ length ws + 1 = length-append ws (w ∷ []) in
    let lv : length (vs ++ x ∷ []) ≡ length vs + 1 = length-append vs (x ∷ []) in
    let z : length ws + 0 ≡ length ws = omega arith in
    let zv : length ws + 0 ≡ length vs = omega (arith, e) in
    let at : slice_index (widths_after cw (ws ++ w ∷ []) ts) (length ws) ≡ w
    = widths-keep cw (ws ++ w ∷ []) ts (length ws) (omega (arith, lw)) ∙ index-last ws w in
    let av : slice_index (values_after cw store (ws ++ w ∷ []) (vs ++ x ∷ []) ts) (length vs) ≡ x
    = values-keep cw store (ws ++ w ∷ []) (vs ++ x ∷ []) ts (length vs) (omega (arith, lv)) ∙ index-last vs x in
    let P : Term → Type 0 = λ y. Over cw store (widths_after cw ws (t ∷ ts)) (values_after cw store ws vs (t ∷ ts)) ws vs y (length ws + 0) in (
      ws,
      (
        vs,
        subst P q (record {
          fits = f.0;
          many = sym z;
          same = λ i less. sym (widths-keep cw ws (t ∷ ts) i (omega (arith, less, z)));
          width = ap (slice_index (widths_after cw (ws ++ w ∷ []) ts)) z ∙ at;
          seen = λ i less. sym (values-keep cw store ws vs (t ∷ ts) i (omega (arith, less, zv)));
          value = ap (slice_index (values_after cw store (ws ++ w ∷ []) (vs ++ x ∷ []) ts)) zv ∙ av;
        }),
      ),
    )
over-from cw store ws vs (t ∷ ts) (suc k) u f e s =
    let w = width_in cw ws t in
    let x = value_in store ws vs t in
    let lw : length (ws ++ w ∷ []) ≡ length ws + 1 = length-append ws (w ∷ []) in
    let lv : length (vs ++ x ∷ []) ≡ length vs + 1 = length-append vs (x ∷ []) in
    let r = over-from cw store (ws ++ w ∷ []) (vs ++ x ∷ []) ts k u f.1 (omega (arith, lw, lv, e)) s in
    let j : length (ws ++ w ∷ []) + k ≡ length ws + suc k = omega (arith, lw) in
    (r.0, (r.1.0, subst (λ (i : ℕ). Over cw store (widths_after cw (ws ++ w ∷ []) ts) (values_after cw store (ws ++ w ∷ []) (vs ++ x ∷ []) ts) r.0 r.1.0 u i) j r.1.1))

abbrev IsOver : Table → List ℕ → ℕ → Term → Type 0
IsOver table store k u =
    (us : List ℕ) × ((xs : List ℕ) × Over table.cells store (widths table) (values table store) us xs u k)

over : (table : Table) (store : List ℕ) (k : ℕ) (u : Term) → IsTable table → slice_get table.terms k ≡ Some u → IsOver table store k u
over table store k u h s =
    let r = over-from table.cells store [] [] table.terms k u h.terms refl s in
    let e : 0 + k ≡ k = omega arith in
    (r.0, (r.1.0, subst (λ (i : ℕ). Over table.cells store (widths table) (values table store) r.0 r.1.0 u i) e r.1.1))

there-below : (ts : List Term) (k : ℕ) (u : Term) → slice_get ts k ≡ Some u → k < length ts
there-below [] k u s = absurd cc
there-below (x ∷ ts) zero u s = omega arith
there-below (x ∷ ts) (suc k) u s = omega (arith, there-below ts k u s)

-- extending
pub extends-none : (a : Table) → Extends a a
extends-none a = (refl, ([], sym (append-nil a.terms)))

pub extends-twice : (a b c : Table) → Extends a b → Extends b c → Extends a c
extends-twice a b c g h =
    (h.0 ∙ g.0, (g.1.0 ++ h.1.0, h.1.1 ∙ ap (λ (ts : List Term). ts ++ h.1.0) g.1.1 ∙ append_assoc a.terms g.1.0 h.1.0))

pub put-extends : {E : Type 0} (r : Result TermId E) (a b : Table) (t : Term) → IfOk r (λ id. IsPut a b t) → OnErr r (b ≡ a) → Extends a b
put-extends (Ok x) a b t p q = elim p [
  | inl e ↦ subst (λ (c : Table). Extends a c) (sym e) (extends-none a)
  | inr e ↦ subst (λ (c : Table). Extends a c) (sym e.0) (refl, (t ∷ [], refl))
]
put-extends (Err x) a b t p q = subst (λ (c : Table). Extends a c) (sym q) (extends-none a)

get-left : (xs ys : List Term) (k : ℕ) (t : Term) → slice_get xs k ≡ Some t → slice_get (xs ++ ys) k ≡ Some t
get-left [] ys k t s = absurd cc
get-left (x ∷ xs) ys zero t s = s
get-left (x ∷ xs) ys (suc k) t s = get-left xs ys k t s

get-stays : (a b : Table) (k : ℕ) (t : Term) → Extends a b → slice_get a.terms k ≡ Some t → slice_get b.terms k ≡ Some t
get-stays a b k t g s = subst (λ (ts : List Term). slice_get ts k ≡ Some t) (sym g.1.1) (get-left a.terms g.1.0 k t s)

pub plain-stays : (a b : Table) (P : ℕ → Type 0) (t : TermId) → Extends a b → IsPlain a P t → IsPlain b P t
plain-stays a b P t g (is_constant w v s) = is_constant w v (get-stays a b t.0 (Constant w v) g s)
plain-stays a b P t g (is_cell c n s) = is_cell c n (get-stays a b t.0 (Cell c) g s)
plain-stays a b P t g (is_bit k i p s) = is_bit k i (plain-stays a b P i g p) (get-stays a b t.0 (Bit k i) g s)
plain-stays a b P t g (is_not i p s) = is_not i (plain-stays a b P i g p) (get-stays a b t.0 (Not i) g s)
plain-stays a b P t g (is_and i j p q s) = is_and i j (plain-stays a b P i g p) (plain-stays a b P j g q) (get-stays a b t.0 (And i j) g s)
plain-stays a b P t g (is_or i j p q s) = is_or i j (plain-stays a b P i g p) (plain-stays a b P j g q) (get-stays a b t.0 (Or i j) g s)

pub bit-stays : (a b : Table) (t : TermId) → Extends a b → IsOneBit a t → IsOneBit b t
bit-stays a b t g h = record {
  there = omega (arith, h.there, ap length g.1.1, length-append a.terms g.1.0);
  width = widths_stay a b t g h.there ∙ h.width;
  plain = plain-stays a b (λ c. Unit {0}) t g h.plain;
}

pub truth-stays : (a b : Table) (t : TermId) (f : List ℕ → Bool) → Extends a b → IsTruth a t f → IsTruth b t f
truth-stays a b t f g h = record {
  bit = bit-stays a b t g h.bit;
  told = λ store. values_stay a b store t g h.bit.there ∙ h.told store;
}

pub side-stays : (a b : Table) (s : Side) → Extends a b → IsSide a s → IsSide b s
side-stays a b Never g h = tt
side-stays a b Always g h = tt
side-stays a b (Written t) g h = bit-stays a b t g h

pub tells-stays : (a b : Table) (s : Side) (f : List ℕ → Bool) → Extends a b → SideTells a s f → SideTells b s f
tells-stays a b Never f g h = h
tells-stays a b Always f g h = h
tells-stays a b (Written t) f g h = truth-stays a b t f g h

pub same-truth : (a : Table) (t : TermId) (f g : List ℕ → Bool) → ((store : List ℕ) → f store ≡ g store) → IsTruth a t f → IsTruth a t g
same-truth a t f g e h = record { bit = h.bit; told = λ store. h.told store ∙ ap truth (e store) }

many : (a : Table) → length (widths a) ≡ length a.terms
many a = omega (arith, length-widths a.cells [] a.terms)

-- what may be put
pub fits-not : (a : Table) (t : TermId) → IsOneBit a t → FitsTable a (Not t)
fits-not a t h = omega (arith, h.there, many a)

pub fits-and : (a : Table) (s t : TermId) → IsOneBit a s → IsOneBit a t → FitsTable a (And s t)
fits-and a s t h g = (omega (arith, h.there, many a), omega (arith, g.there, many a), h.width ∙ sym g.width)

pub fits-or : (a : Table) (s t : TermId) → IsOneBit a s → IsOneBit a t → FitsTable a (Or s t)
fits-or a s t h g = (omega (arith, h.there, many a), omega (arith, g.there, many a), h.width ∙ sym g.width)

pub fits-bit : (a b : Table) (id : TermId) (x : BitOf) → IsBitIn a.cells x → Extends a b → IsTable b → slice_get b.terms id.0 ≡ Some (Cell x.cell) → FitsTable b (Bit x.bit id)
fits-bit a b id x h g is s =
    let o = (over b [] id.0 (Cell x.cell) is s).1.1 in
    let e : slice_index (widths b) id.0 ≡ slice_index a.cells x.cell = o.width ∙ ap (λ (cs : List ℕ). slice_index cs x.cell) g.0 in
    (omega (arith, there-below b.terms id.0 (Cell x.cell) s, many b), omega (arith, e, h.1))

-- how wide it is
pub bit-not : (b : Table) (t id : TermId) → IsTable b → slice_get b.terms id.0 ≡ Some (Not t) → IsOneBit b t → IsOneBit b id
bit-not b t id is s h =
    let o = (over b [] id.0 (Not t) is s).1.1 in
    record {
      there = there-below b.terms id.0 (Not t) s;
      width = o.width ∙ o.same t.0 (omega (arith, o.fits, o.many)) ∙ h.width;
      plain = is_not t h.plain s;
    }

pub bit-and : (b : Table) (t u id : TermId) → IsTable b → slice_get b.terms id.0 ≡ Some (And t u) → IsOneBit b t → IsOneBit b u → IsOneBit b id
bit-and b t u id is s h i =
    let o = (over b [] id.0 (And t u) is s).1.1 in
    record {
      there = there-below b.terms id.0 (And t u) s;
      width = o.width ∙ o.same t.0 (omega (arith, o.fits.0, o.many)) ∙ h.width;
      plain = is_and t u h.plain i.plain s;
    }

pub bit-or : (b : Table) (t u id : TermId) → IsTable b → slice_get b.terms id.0 ≡ Some (Or t u) → IsOneBit b t → IsOneBit b u → IsOneBit b id
bit-or b t u id is s h i =
    let o = (over b [] id.0 (Or t u) is s).1.1 in
    record {
      there = there-below b.terms id.0 (Or t u) s;
      width = o.width ∙ o.same t.0 (omega (arith, o.fits.0, o.many)) ∙ h.width;
      plain = is_or t u h.plain i.plain s;
    }

-- what was put
not_truth : (x : Bool) → complement_in 1 (truth x) ≡ truth (not x)
not_truth true = refl
not_truth false = refl

pub put-not : (a b : Table) (t id : TermId) (f : List ℕ → Bool) → IsTable b → Extends a b → slice_get b.terms id.0 ≡ Some (Not t) → IsTruth a t f → IsTruth b id (λ store. not (f store))
put-not a b t id f is g s h =
    let k : IsTruth b t f = truth-stays a b t f g h in
    let o0 = (over b [] id.0 (Not t) is s).1.1 in
    let lt0 : t.0 < id.0 = omega (arith, o0.fits, o0.many) in
    let w0 : slice_index (widths b) id.0 ≡ 1 = o0.width ∙ o0.same t.0 lt0 ∙ k.bit.width in
    record {
      bit = record { there = there-below b.terms id.0 (Not t) s; width = w0; plain = is_not t k.bit.plain s };
      told = λ store.
          let o = (over b store id.0 (Not t) is s).1.1 in
          let us = (over b store id.0 (Not t) is s).0 in
          let xs = (over b store id.0 (Not t) is s).1.0 in
          let lt : t.0 < id.0 = omega (arith, o.fits, o.many) in
          let w : slice_index us t.0 ≡ 1 = o.same t.0 lt ∙ k.bit.width in
          let v : slice_index xs t.0 ≡ truth (f store) = o.seen t.0 lt ∙ k.told store in
          o.value ∙ ap (λ (n : ℕ). complement_in n (slice_index xs t.0)) w ∙ ap (complement_in 1) v ∙ not_truth (f store);
    }

and_truth : (x y : Bool) → bit_and (truth x) (truth y) ≡ truth (x && y)
and_truth true true = refl
and_truth true false = refl
and_truth false true = refl
and_truth false false = refl

or_truth : (x y : Bool) → bit_or (truth x) (truth y) ≡ truth (x || y)
or_truth true true = refl
or_truth true false = refl
or_truth false true = refl
or_truth false false = refl

pub put-and : (a b : Table) (t u id : TermId) (f g : List ℕ → Bool) → IsTable b → Extends a b → slice_get b.terms id.0 ≡ Some (And t u) → IsTruth a t f → IsTruth a u g → IsTruth b id (λ store. f store && g store)
put-and a b t u id f g is x s h i =
    let k : IsTruth b t f = truth-stays a b t f x h in
    let l : IsTruth b u g = truth-stays a b u g x i in
    let o0 = (over b [] id.0 (And t u) is s).1.1 in
    let lt0 : t.0 < id.0 = omega (arith, o0.fits.0, o0.many) in
    record {
      bit = record {
        there = there-below b.terms id.0 (And t u) s;
        width = o0.width ∙ o0.same t.0 lt0 ∙ k.bit.width;
        plain = is_and t u k.bit.plain l.bit.plain s;
      };
      told = λ store.
          let o = (over b store id.0 (And t u) is s).1.1 in
          let xs = (over b store id.0 (And t u) is s).1.0 in
          let v : slice_index xs t.0 ≡ truth (f store) = o.seen t.0 (omega (arith, o.fits.0, o.many)) ∙ k.told store in
          let w : slice_index xs u.0 ≡ truth (g store) = o.seen u.0 (omega (arith, o.fits.1, o.many)) ∙ l.told store in
          o.value ∙ ap (λ (n : ℕ). bit_and n (slice_index xs u.0)) v ∙ ap (bit_and (truth (f store))) w ∙ and_truth (f store) (g store);
    }

pub put-or : (a b : Table) (t u id : TermId) (f g : List ℕ → Bool) → IsTable b → Extends a b → slice_get b.terms id.0 ≡ Some (Or t u) → IsTruth a t f → IsTruth a u g → IsTruth b id (λ store. f store || g store)
put-or a b t u id f g is x s h i =
    let k : IsTruth b t f = truth-stays a b t f x h in
    let l : IsTruth b u g = truth-stays a b u g x i in
    let o0 = (over b [] id.0 (Or t u) is s).1.1 in
    let lt0 : t.0 < id.0 = omega (arith, o0.fits.0, o0.many) in
    record {
      bit = record {
        there = there-below b.terms id.0 (Or t u) s;
        width = o0.width ∙ o0.same t.0 lt0 ∙ k.bit.width;
        plain = is_or t u k.bit.plain l.bit.plain s;
      };
      told = λ store.
          let o = (over b store id.0 (Or t u) is s).1.1 in
          let xs = (over b store id.0 (Or t u) is s).1.0 in
          let v : slice_index xs t.0 ≡ truth (f store) = o.seen t.0 (omega (arith, o.fits.0, o.many)) ∙ k.told store in
          let w : slice_index xs u.0 ≡ truth (g store) = o.seen u.0 (omega (arith, o.fits.1, o.many)) ∙ l.told store in
          o.value ∙ ap (λ (n : ℕ). bit_or n (slice_index xs u.0)) v ∙ ap (bit_or (truth (f store))) w ∙ or_truth (f store) (g store);
    }

-- a number below 2 is the truth of being 1
one_truth : (n : ℕ) → n < 2 → n ≡ truth (n == 1)
one_truth zero lt = refl
one_truth (suc zero) lt = refl
one_truth (suc (suc n)) lt = absurd (omega (arith, lt))

pub put-bit : (a b c : Table) (x : BitOf) (cell id : TermId) → IsTable b → slice_get b.terms cell.0 ≡ Some (Cell x.cell) → IsTable c → Extends b c → slice_get c.terms id.0 ≡ Some (Bit x.bit cell)
    → IsTruth c id (λ store. is_set store x)
unfolding is_set
put-bit a b c x cell id isb sb isc g sc =
    record {
      bit = record {
        there = there-below c.terms id.0 (Bit x.bit cell) sc;
        width = (over c [] id.0 (Bit x.bit cell) isc sc).1.1.width;
        plain = is_bit x.bit cell (is_cell x.cell tt (get-stays b c cell.0 (Cell x.cell) g sb)) sc;
      };
      told = λ store.
          let ob = (over b store cell.0 (Cell x.cell) isb sb).1.1 in
          let o = (over c store id.0 (Bit x.bit cell) isc sc).1.1 in
          let xs = (over c store id.0 (Bit x.bit cell) isc sc).1.0 in
          let v : slice_index xs cell.0 ≡ slice_index store x.cell =
          o.seen cell.0 (omega (arith, o.fits.0, o.many)) ∙ values_stay b c store cell g (there-below b.terms cell.0 (Cell x.cell) sb) ∙ ob.value in
          o.value ∙ ap (bit_of x.bit) v ∙ one_truth (bit_of x.bit (slice_index store x.cell)) (mod-lt (slice_index store x.cell / 2 ^ x.bit) (omega arith));
    }

-- a constant
pub fits-end : (a : Table) (n : ℕ) → n < 2 → FitsTable a (Constant 1 n)
fits-end a n lt = ((omega arith, omega arith), omega (arith, lt))

pub put-end : (b : Table) (id : TermId) (n : ℕ) (f : List ℕ → Bool) → IsTable b → slice_get b.terms id.0 ≡ Some (Constant 1 n) → ((store : List ℕ) → n ≡ truth (f store)) → IsTruth b id f
put-end b id n f is s e = record {
  bit = record {
    there = there-below b.terms id.0 (Constant 1 n) s;
    width = (over b [] id.0 (Constant 1 n) is s).1.1.width;
    plain = is_constant 1 n s;
  };
  told = λ store. (over b store id.0 (Constant 1 n) is s).1.1.value ∙ e store;
}

-- of a call's result
pub not-bits : {E : Type 0} (r : Result TermId E) (a b : Table) (t : TermId) → IsTable b → Extends a b → IfOk r (λ id. slice_get b.terms id.0 ≡ Some (Not t)) → IsOneBit a t
    → IfOk r (λ id. IsOneBit b id)
not-bits (Ok id) a b t is g s h = bit-not b t id is s (bit-stays a b t g h)
not-bits (Err e) a b t is g s h = tt

pub not-result : {E : Type 0} (r : Result TermId E) (a b : Table) (t : TermId) → IsTable b → Extends a b → IfOk r (λ id. slice_get b.terms id.0 ≡ Some (Not t))
    → (f : List ℕ → Bool) → IsTruth a t f → IfOk r (λ id. IsTruth b id (λ store. not (f store)))
not-result (Ok id) a b t is g s f h = put-not a b t id f is g s h
not-result (Err e) a b t is g s f h = tt

pub and-bits : {E : Type 0} (r : Result TermId E) (a b : Table) (t u : TermId) → IsTable b → Extends a b → IfOk r (λ id. slice_get b.terms id.0 ≡ Some (And t u)) → IsOneBit a t → IsOneBit a u
    → IfOk r (λ id. IsOneBit b id)
and-bits (Ok id) a b t u is g s h i = bit-and b t u id is s (bit-stays a b t g h) (bit-stays a b u g i)
and-bits (Err e) a b t u is g s h i = tt

pub and-result : {E : Type 0} (r : Result TermId E) (a b : Table) (t u : TermId) → IsTable b → Extends a b → IfOk r (λ id. slice_get b.terms id.0 ≡ Some (And t u))
    → (f g : List ℕ → Bool) → IsTruth a t f → IsTruth a u g → IfOk r (λ id. IsTruth b id (λ store. f store && g store))
and-result (Ok id) a b t u is x s f g h i = put-and a b t u id f g is x s h i
and-result (Err e) a b t u is x s f g h i = tt

pub or-bits : {E : Type 0} (r : Result TermId E) (a b : Table) (t u : TermId) → IsTable b → Extends a b → IfOk r (λ id. slice_get b.terms id.0 ≡ Some (Or t u)) → IsOneBit a t → IsOneBit a u
    → IfOk r (λ id. IsOneBit b id)
or-bits (Ok id) a b t u is g s h i = bit-or b t u id is s (bit-stays a b t g h) (bit-stays a b u g i)
or-bits (Err e) a b t u is g s h i = tt

pub or-result : {E : Type 0} (r : Result TermId E) (a b : Table) (t u : TermId) → IsTable b → Extends a b → IfOk r (λ id. slice_get b.terms id.0 ≡ Some (Or t u))
    → (f g : List ℕ → Bool) → IsTruth a t f → IsTruth a u g → IfOk r (λ id. IsTruth b id (λ store. f store || g store))
or-result (Ok id) a b t u is x s f g h i = put-or a b t u id f g is x s h i
or-result (Err e) a b t u is x s f g h i = tt

pub bit-result : {E : Type 0} (r : Result TermId E) (b c : Table) (x : BitOf) (cell : TermId) → IsTable b → slice_get b.terms cell.0 ≡ Some (Cell x.cell) → IsTable c → Extends b c
    → IfOk r (λ id. slice_get c.terms id.0 ≡ Some (Bit x.bit cell)) → IfOk r (λ id. IsTruth c id (λ store. is_set store x))
bit-result (Ok id) b c x cell isb sb isc g s = put-bit b b c x cell id isb sb isc g s
bit-result (Err e) b c x cell isb sb isc g s = tt

end_truth : (n : ℕ) → n < 2 → n ≡ truth (n == 1)
end_truth n lt = one_truth n lt

pub end-bits : {E : Type 0} (r : Result TermId E) (b : Table) (n : ℕ) → n < 2 → IsTable b → IfOk r (λ id. slice_get b.terms id.0 ≡ Some (Constant 1 n)) → IfOk r (λ id. IsOneBit b id)
end-bits (Ok id) b n lt is s = (put-end b id n (λ store. n == 1) is s (λ store. end_truth n lt)).bit
end-bits (Err e) b n lt is s = tt

pub end-result : {E : Type 0} (r : Result TermId E) (b : Table) (n : ℕ) → n < 2 → IsTable b → IfOk r (λ id. slice_get b.terms id.0 ≡ Some (Constant 1 n)) → IfOk r (λ id. IsTruth b id (λ store. n == 1))
end-result (Ok id) b n lt is s = put-end b id n (λ store. n == 1) is s (λ store. end_truth n lt)
end-result (Err e) b n lt is s = tt

pub same-result : {E : Type 0} (r : Result TermId E) (b : Table) (f g : List ℕ → Bool) → ((store : List ℕ) → f store ≡ g store) → IfOk r (λ t. IsTruth b t f) → IfOk r (λ t. IsTruth b t g)
same-result (Ok t) b f g e h = same-truth b t f g e h
same-result (Err x) b f g e h = tt

-- choices by cases
pub choose_both : (x h g : Bool) → ((x && h) || (not x && g)) ≡ choice x h g
choose_both true true g = refl
choose_both true false g = refl
choose_both false h g = refl

pub choose_wn : (x h g : Bool) → h ≡ false → (not x && g) ≡ choice x h g
choose_wn true h g e = sym e
choose_wn false h g e = refl

pub choose_wa : (x h g : Bool) → h ≡ true → (x || g) ≡ choice x h g
choose_wa true h g e = sym e
choose_wa false h g e = refl

pub choose_nw : (x h g : Bool) → g ≡ false → (x && h) ≡ choice x h g
choose_nw true h g e = refl
choose_nw false h g e = sym e

pub choose_aw : (x h g : Bool) → g ≡ true → (not x || h) ≡ choice x h g
choose_aw true h g e = refl
choose_aw false h g e = sym e

pub choose_na : (x h g : Bool) → g ≡ false → h ≡ true → x ≡ choice x h g
choose_na true h g d e = sym e
choose_na false h g d e = sym d

pub choose_an : (x h g : Bool) → g ≡ true → h ≡ false → not x ≡ choice x h g
choose_an true h g d e = sym e
choose_an false h g d e = sym d

pub choose_end : (v x h g : Bool) → g ≡ v → h ≡ v → v ≡ choice x h g
choose_end v true h g d e = sym e
choose_end v false h g d e = sym d

pub never-tells : (t : Table) (s : Side) (f : List ℕ → Bool) → s ≡ Never → SideTells t s f → (store : List ℕ) → f store ≡ false
never-tells t s f e h = subst (λ (y : Side). SideTells t y f) e h

pub always-tells : (t : Table) (s : Side) (f : List ℕ → Bool) → s ≡ Always → SideTells t s f → (store : List ℕ) → f store ≡ true
always-tells t s f e h = subst (λ (y : Side). SideTells t y f) e h

pub written-tells : (t : Table) (s : Side) (i : TermId) (f : List ℕ → Bool) → s ≡ Written i → SideTells t s f → IsTruth t i f
written-tells t s i f e h = subst (λ (y : Side). SideTells t y f) e h
