-- A term put into another table under the new numbers of its operands.
use Rattle.std.proofs.Common.{◌≡◌, ℕ, ◌+◌, ◌<◌, List, [], ◌∷◌, ◌++◌, length, refl, sym, ap, ◌∙◌, subst, zero, suc, arith, Some, Result, Ok, Err, slice_get, slice_index, inl, inr, ◌⊎◌, length-append, append_assoc}
use Rattle.std.specs.Prelude.{IfOk, OnErr, slice_index_or}
use Rattle.std.proofs.lemmas.List.{append-nil}
use Rattle.bv_term.specs.declared.term.TermId.{TermId}
use Rattle.bv_term.specs.declared.term.Term.{Term}
use Rattle.bv_term.specs.declared.term.Term.TheVariants.{Constant, Cell, Element, Add, Subtract, Multiply, Divide, Remainder, And, Or, Xor, Not, ShiftLeft, ShiftRight, ShiftSigned, Equal, Less, LessSigned, Select, ZeroExtend, SignExtend, Truncate, Bit}
use Rattle.bv_term.specs.WellFormed.{Table, IsTable, FitsTable, Fits, widths, width_in}
use Rattle.bv_term.specs.Values.{value, values}
use Rattle.bv_term.specs.Laws.{IsPut, Extends}
use Rattle.bv_term.proofs.Staying.{values_stay, widths_stay}
use Rattle.bv_term.proofs.Growing.{length-widths}
use Rattle.term_laws.specs.Operands.{Follows, OnOperands, renamed}
use Rattle.term_laws.specs.Laws.{IsMade}
use Rattle.term_laws.proofs.Renaming as renaming
use Rattle.term_laws.proofs.Made.{made, onto}
use Rattle.term_copy.specs.Copies.{AreCopies, number_in}

pub put-extends : {E : Type 0} (r : Result TermId E) (a b : Table) (t : Term) → IfOk r (λ id. IsPut a b t) → OnErr r (b ≡ a) → Extends a b
put-extends (Ok x) a b t p q = elim p [
  | inl e ↦ subst (λ (c : Table). Extends a c) (sym e) (refl, ([], sym (append-nil a.terms)))
  | inr e ↦ subst (λ (c : Table). Extends a c) (sym e.0) (refl, (t ∷ [], refl))
]
put-extends (Err x) a b t p q = subst (λ (c : Table). Extends a c) (sym q) (refl, ([], sym (append-nil a.terms)))

many : (a : Table) → length (widths a) ≡ length a.terms
many a = omega (arith, length-widths a.cells [] a.terms)

-- the copies follow their terms
follows : (from into : Table) (to : List TermId) (u : Term) → AreCopies from into to → OnOperands (λ i. i.0 < length to) u
    → OnOperands (Follows (number_in to) (widths from) (widths into)) u
follows from into to u c h =
    onto (λ i. i.0 < length to) (Follows (number_in to) (widths from) (widths into)) u
    (λ i lt. record { there = omega (arith, c.there i lt, many into); same = c.widths i lt }) h

-- what is put is well formed
pub next-fits : (from into : Table) (to : List TermId) (u : Term) → IsTable from → slice_get from.terms (length to) ≡ Some u
    → into.cells ≡ from.cells → AreCopies from into to → FitsTable into (renamed (number_in to) u)
next-fits from into to u h s e c =
    let t : TermId = record { 0 = length to } in
    let m = made from [] t u h s in
    let f = renaming.fits (number_in to) from.cells (widths from) (widths into) u (follows from into to u c m.before) m.fits in
    subst (λ (cs : List ℕ). Fits cs (widths into) (renamed (number_in to) u)) (sym e) f

last-of : (to : List TermId) (id : TermId) (i : ℕ) → i ≡ length to → slice_index_or (to ++ id ∷ []) i (record { 0 = 0 }) ≡ id
last-of [] id i e = subst (λ (n : ℕ). slice_index_or (id ∷ []) n (record { 0 = 0 }) ≡ id) (sym e) refl
last-of (x ∷ to) id i e = subst (λ (n : ℕ). slice_index_or (x ∷ (to ++ id ∷ [])) n (record { 0 = 0 }) ≡ id) (sym e) (last-of to id (length to) refl)

earlier-of : (to : List TermId) (id : TermId) (i : ℕ) → i < length to
    → slice_index_or (to ++ id ∷ []) i (record { 0 = 0 }) ≡ slice_index_or to i (record { 0 = 0 })
earlier-of [] id i lt = absurd (omega (arith, lt))
earlier-of (x ∷ to) id zero lt = refl
earlier-of (x ∷ to) id (suc i) lt = earlier-of to id i (omega (arith, lt))

split : (i n : ℕ) → i < n + 1 → (i < n) ⊎ (i ≡ n)
split zero zero lt = inr refl
split zero (suc n) lt = inl (omega arith)
split (suc i) zero lt = absurd (omega (arith, lt))
split (suc i) (suc n) lt = elim (split i n (omega (arith, lt))) [ inl h ↦ inl (omega (arith, h)) | inr e ↦ inr (ap suc e) ]

-- a term whose operands have the same new numbers
renamed-same : (f g : TermId → TermId) (u : Term) → OnOperands (λ i. f i ≡ g i) u → renamed f u ≡ renamed g u
renamed-same f g (Constant w v) h = refl
renamed-same f g (Cell c) h = refl
renamed-same f g (Element first n i) h = ap (Element first n) h
renamed-same f g (Add i j) h = ap (λ (x : TermId). Add x (f j)) h.0 ∙ ap (Add (g i)) h.1
renamed-same f g (Subtract i j) h = ap (λ (x : TermId). Subtract x (f j)) h.0 ∙ ap (Subtract (g i)) h.1
renamed-same f g (Multiply i j) h = ap (λ (x : TermId). Multiply x (f j)) h.0 ∙ ap (Multiply (g i)) h.1
renamed-same f g (Divide i j) h = ap (λ (x : TermId). Divide x (f j)) h.0 ∙ ap (Divide (g i)) h.1
renamed-same f g (Remainder i j) h = ap (λ (x : TermId). Remainder x (f j)) h.0 ∙ ap (Remainder (g i)) h.1
renamed-same f g (And i j) h = ap (λ (x : TermId). And x (f j)) h.0 ∙ ap (And (g i)) h.1
renamed-same f g (Or i j) h = ap (λ (x : TermId). Or x (f j)) h.0 ∙ ap (Or (g i)) h.1
renamed-same f g (Xor i j) h = ap (λ (x : TermId). Xor x (f j)) h.0 ∙ ap (Xor (g i)) h.1
renamed-same f g (Not i) h = ap Not h
renamed-same f g (ShiftLeft i j) h = ap (λ (x : TermId). ShiftLeft x (f j)) h.0 ∙ ap (ShiftLeft (g i)) h.1
renamed-same f g (ShiftRight i j) h = ap (λ (x : TermId). ShiftRight x (f j)) h.0 ∙ ap (ShiftRight (g i)) h.1
renamed-same f g (ShiftSigned i j) h = ap (λ (x : TermId). ShiftSigned x (f j)) h.0 ∙ ap (ShiftSigned (g i)) h.1
renamed-same f g (Equal i j) h = ap (λ (x : TermId). Equal x (f j)) h.0 ∙ ap (Equal (g i)) h.1
renamed-same f g (Less i j) h = ap (λ (x : TermId). Less x (f j)) h.0 ∙ ap (Less (g i)) h.1
renamed-same f g (LessSigned i j) h = ap (λ (x : TermId). LessSigned x (f j)) h.0 ∙ ap (LessSigned (g i)) h.1
renamed-same f g (Select i j k) h =
    ap (λ (x : TermId). Select x (f j) (f k)) h.0 ∙ ap (λ (x : TermId). Select (g i) x (f k)) h.1 ∙ ap (Select (g i) (g j)) h.2
renamed-same f g (ZeroExtend w i) h = ap (ZeroExtend w) h
renamed-same f g (SignExtend w i) h = ap (SignExtend w) h
renamed-same f g (Truncate w i) h = ap (Truncate w) h
renamed-same f g (Bit n i) h = ap (Bit n) h

get-left : (xs ys : List Term) (k : ℕ) (t : Term) → slice_get xs k ≡ Some t → slice_get (xs ++ ys) k ≡ Some t
get-left [] ys k t h = absurd cc
get-left (x ∷ xs) ys zero t h = h
get-left (x ∷ xs) ys (suc k) t h = get-left xs ys k t h

term-stays : (a b : Table) (k : ℕ) (t : Term) → Extends a b → slice_get a.terms k ≡ Some t → slice_get b.terms k ≡ Some t
term-stays a b k t g h = subst (λ (ts : List Term). slice_get ts k ≡ Some t) (sym g.1.1) (get-left a.terms g.1.0 k t h)

-- a further number changes nothing for the terms before
renamed-more : (from : Table) (to : List TermId) (id i : TermId) (u : Term) → IsTable from → slice_get from.terms i.0 ≡ Some u → (i.0 < length to) ⊎ (i.0 ≡ length to)
    → renamed (number_in to) u ≡ renamed (number_in (to ++ id ∷ [])) u
renamed-more from to id i u h s few =
    renamed-same (number_in to) (number_in (to ++ id ∷ [])) u
    (onto (λ j. j.0 < i.0) (λ j. number_in to j ≡ number_in (to ++ id ∷ []) j) u (λ j lt. sym (earlier-of to id j.0 (less j.0 lt few))) (made from [] i u h s).before)
  where
    less : (j : ℕ) → j < i.0 → (i.0 < length to) ⊎ (i.0 ≡ length to) → j < length to
    less j lt (inl a) = omega (arith, lt, a)
    less j lt (inr q) = omega (arith, lt, q)

-- copies stay copies as the other table grows
pub grown : (from into new : Table) (to : List TermId) → Extends into new → AreCopies from into to → AreCopies from new to
grown from into new to g c = record {
  there = λ i lt. omega (arith, c.there i lt, ap length g.1.1, length-append into.terms g.1.0);
  widths = λ i lt. widths_stay into new (number_in to i) g (c.there i lt) ∙ c.widths i lt;
  values = λ store i lt. values_stay into new store (number_in to i) g (c.there i lt) ∙ c.values store i lt;
  terms = λ i t lt s. term-stays into new (number_in to i).0 (renamed (number_in to) t) g (c.terms i t lt s);
}

-- the next term is copied, too
pub copied-one : (from into new : Table) (to : List TermId) (u : Term) (id : TermId) → IsTable from → slice_get from.terms (length to) ≡ Some u
    → into.cells ≡ from.cells → AreCopies from into to → Extends into new → IsTable new → slice_get new.terms id.0 ≡ Some (renamed (number_in to) u)
    → AreCopies from new (to ++ id ∷ [])
copied-one from into new to u id h s e c g is n =
    let d = grown from into new to g c in
    let cells : new.cells ≡ from.cells = g.0 ∙ e in
    let last : TermId = record { 0 = length to } in
    let m : (store : List ℕ) → IsMade from store last u = λ store. made from store last u h s in
    let k : (store : List ℕ) → IsMade new store id (renamed (number_in to) u) = λ store. made new store id (renamed (number_in to) u) is n in
    let fl = follows from new to u d (m []).before in
    let w : slice_index (widths new) id.0 ≡ slice_index (widths from) (length to) =
    (k []).width ∙ renaming.width (number_in to) new.cells (widths from) (widths new) u fl
    ∙ ap (λ (cs : List ℕ). width_in cs (widths from) u) cells ∙ sym (m []).width in
    let v : (store : List ℕ) → value new store id ≡ value from store last = λ store.
    (k store).value
    ∙ renaming.value (number_in to) store (widths from) (widths new) (values from store) (values new store) u fl
    (onto (λ i. i.0 < length to) (λ i. slice_index (values new store) (number_in to i).0 ≡ slice_index (values from store) i.0) u (λ i lt. d.values store i lt) (m store).before)
    ∙ sym (m store).value in
    let few : (i : TermId) → i.0 < length (to ++ id ∷ []) → (i.0 < length to) ⊎ (i.0 ≡ length to) =
    λ i lt. split i.0 (length to) (omega (arith, lt, length-append to (id ∷ []))) in
    let term-more : (i : TermId) (t : Term) → (i.0 < length to) ⊎ (i.0 ≡ length to) → slice_get from.terms i.0 ≡ Some t
    → slice_get new.terms (number_in (to ++ id ∷ []) i).0 ≡ Some (renamed (number_in to) t) = λ i t w. elim w as (λ _. slice_get from.terms i.0 ≡ Some t
    → slice_get new.terms (number_in (to ++ id ∷ []) i).0 ≡ Some (renamed (number_in to) t)) [
      | inl a ↦ (λ at. ap (λ (x : TermId). slice_get new.terms x.0) (earlier-of to id i.0 a) ∙ d.terms i t a at)
      | inr q ↦ (λ at.
          let here : slice_get from.terms (length to) ≡ Some t = subst (λ (k : ℕ). slice_get from.terms k ≡ Some t) q at in
          let same : u ≡ t = cc in
          ap (λ (x : TermId). slice_get new.terms x.0) (last-of to id i.0 q) ∙ n ∙ ap (λ (x : Term). Some (renamed (number_in to) x)) same)
    ] in
    record {
      there = λ i lt. elim (few i lt) as (λ _. (number_in (to ++ id ∷ []) i).0 < length new.terms) [
        | inl a ↦ subst (λ (x : TermId). x.0 < length new.terms) (sym (earlier-of to id i.0 a)) (d.there i a)
        | inr q ↦ subst (λ (x : TermId). x.0 < length new.terms) (sym (last-of to id i.0 q)) (k []).there
      ];
      widths = λ i lt. elim (few i lt) as (λ _. slice_index (widths new) (number_in (to ++ id ∷ []) i).0 ≡ slice_index (widths from) i.0) [
        | inl a ↦ ap (λ (x : TermId). slice_index (widths new) x.0) (earlier-of to id i.0 a) ∙ d.widths i a
        | inr q ↦ ap (λ (x : TermId). slice_index (widths new) x.0) (last-of to id i.0 q) ∙ w ∙ ap (slice_index (widths from)) (sym q)
      ];
      values = λ store i lt. elim (few i lt) as (λ _. value new store (number_in (to ++ id ∷ []) i) ≡ value from store i) [
        | inl a ↦ ap (value new store) (earlier-of to id i.0 a) ∙ d.values store i a
        | inr q ↦ ap (value new store) (last-of to id i.0 q) ∙ v store ∙ ap (slice_index (values from store)) (sym q)
      ];
      terms = λ i t lt a. term-more i t (few i lt) a ∙ ap Some (renamed-more from to id i t h a (few i lt));
    }

-- the next term is copied where it was put
pub copied_next : {E : Type 0} (r : Result TermId E) (from into new : Table) (to : List TermId) (u t : Term) → IsTable from → slice_get from.terms (length to) ≡ Some u
    → into.cells ≡ from.cells → AreCopies from into to → t ≡ renamed (number_in to) u → IsTable new
    → IfOk r (λ id. IsPut into new t) → OnErr r (new ≡ into) → IfOk r (λ id. slice_get new.terms id.0 ≡ Some t)
    → IfOk r (λ id. AreCopies from new (to ++ id ∷ []))
copied_next {E = E} (Ok id) from into new to u t h s e c q is p o n =
    copied-one from into new to u id h s e c (put-extends {E = E} (Ok id) into new t p o) is (n ∙ ap Some q)
copied_next (Err x) from into new to u t h s e c q is p o n = tt

-- no term is copied yet
pub copies_none : (from into : Table) → AreCopies from into []
copies_none from into = record {
  there = λ i lt. absurd (omega (arith, lt));
  widths = λ i lt. absurd (omega (arith, lt));
  values = λ store i lt. absurd (omega (arith, lt));
  terms = λ i t lt. absurd (omega (arith, lt));
}

pub extends_none : (a : Table) → Extends a a
extends_none a = (refl, ([], sym (append-nil a.terms)))

pub extends_twice : (a b c : Table) → Extends a b → Extends b c → Extends a c
extends_twice a b c g h =
    (h.0 ∙ g.0, (g.1.0 ++ h.1.0, h.1.1 ∙ ap (λ (ts : List Term). ts ++ h.1.0) g.1.1 ∙ append_assoc a.terms g.1.0 h.1.0))
