-- Terms that join others: their widths, and where they hold.
use Rattle.std.proofs.Common.{◌≡◌, ◌≢◌, ℕ, ◌+◌, ◌<◌, ◌≤◌, ◌^◌, true, false, List, [], ◌∷◌, ◌++◌, length, refl, sym, ap, ◌∙◌, subst, zero, suc, arith, Option, Some, None, Result, Ok, Err, slice_get, slice_index, slice_index_or, ◌⊎◌, inl, inr, ◌↔◌, bit_and, bit_or, take, nat_lt, not, length-append}
use Rattle.std.specs.Prelude.{IfOk, slice_set}
use Rattle.std.proofs.lemmas.Bool.{cases_eq, cases_lt, ltb-true, and_parts}
use Rattle.std.proofs.lemmas.List.{length-set, get_or-set_same, get_or-set_other, get_or_append_left, get_or-append-add}
use Rattle.bv_term.specs.declared.term.TermId.{TermId}
use Rattle.bv_term.specs.declared.term.Term.TheVariants.{Constant, And, Or}
use Rattle.bv_term.specs.WellFormed.{Table, IsTable, FitsTable, widths}
use Rattle.bv_term.specs.Values.{value, Holds, IsStore}
use Rattle.bv_term.specs.Laws.{Extends}
use Rattle.bv_term.proofs.Staying.{values_stay, widths_stay, values_fit}
use Rattle.c_graph.specs.Shape.{HasWidth}
use Rattle.reach_tree.specs.declared.vertex.Vertex.{Vertex}
use Rattle.reach_tree.specs.Trees.{vertex_at}
use Rattle.cover_engine.specs.Unwindings.{Unwound, is_covered}
use Rattle.cover_engine.specs.Units.{Meets}
use Rattle.invariant_map.specs.Copies.{place_of}
use Rattle.invariant_map.specs.Labels.{counts, IsPlaced, ArePlaced, IsLabel, IsPart, AreParts, IsFormula, SomeMet, IsTermOrNone, EitherHolds, IsFilled, AreFilled}
use Rattle.invariant_map.proofs.Moves.{over, there_below}
use Rattle.invariant_map.proofs.Copies.{many, longer, copy_stays}

pub bit_stays : (a b : Table) (t : TermId) → Extends a b → HasWidth a t 1 → HasWidth b t 1
bit_stays a b t g h = (longer a b t g h.0, widths_stay a b t g h.0 ∙ h.1)

pub fits_and : (a : Table) (s t : TermId) → HasWidth a s 1 → HasWidth a t 1 → FitsTable a (And s t)
fits_and a s t h g = (omega (arith, h.0, many a), omega (arith, g.0, many a), h.1 ∙ sym g.1)

pub fits_or : (a : Table) (s t : TermId) → HasWidth a s 1 → HasWidth a t 1 → FitsTable a (Or s t)
fits_or a s t h g = (omega (arith, h.0, many a), omega (arith, g.0, many a), h.1 ∙ sym g.1)

pub fits_bit : (a : Table) (n : ℕ) → n < 2 → FitsTable a (Constant 1 n)
fits_bit a n lt = ((omega arith, omega arith), omega (arith, lt))

-- of a term that was put
and_bit : (a b : Table) (t u id : TermId) → IsTable b → Extends a b → slice_get b.terms id.0 ≡ Some (And t u) → HasWidth a t 1 → HasWidth b id 1
and_bit a b t u id is g s h =
    let o = (over b [] id.0 (And t u) is s).1.1 in
    (there_below b.terms id.0 (And t u) s, o.width ∙ o.same t.0 (omega (arith, o.fits.0, o.many)) ∙ (bit_stays a b t g h).1)

or_bit : (a b : Table) (t u id : TermId) → IsTable b → Extends a b → slice_get b.terms id.0 ≡ Some (Or t u) → HasWidth a t 1 → HasWidth b id 1
or_bit a b t u id is g s h =
    let o = (over b [] id.0 (Or t u) is s).1.1 in
    (there_below b.terms id.0 (Or t u) s, o.width ∙ o.same t.0 (omega (arith, o.fits.0, o.many)) ∙ (bit_stays a b t g h).1)

-- bits
is_bit : (x : ℕ) → x < 2 → (x ≡ 0) ⊎ (x ≡ 1)
is_bit zero lt = inl refl
is_bit (suc zero) lt = inr refl
is_bit (suc (suc x)) lt = absurd (omega (arith, lt))

abbrev IsOne : ℕ → Type 0
IsOne n = n ≡ 1

zero_one : IsOne 0 → ⊥
zero_one e = omega (arith, e)

and_holds : (x y : ℕ) → x < 2 → y < 2 → IsOne (bit_and x y) ↔ (IsOne x × IsOne y)
and_holds x y lx ly = elim (is_bit x lx) [
  | inl a ↦ subst (λ (x : ℕ). IsOne (bit_and x y) ↔ (IsOne x × IsOne y)) (sym a) (elim (is_bit y ly) [
    | inl b ↦ subst (λ (y : ℕ). IsOne (bit_and 0 y) ↔ (IsOne 0 × IsOne y)) (sym b) ((λ e. absurd (zero_one e)), (λ e. absurd (zero_one e.0)))
    | inr b ↦ subst (λ (y : ℕ). IsOne (bit_and 0 y) ↔ (IsOne 0 × IsOne y)) (sym b) ((λ e. absurd (zero_one e)), (λ e. absurd (zero_one e.0)))
  ])
  | inr a ↦ subst (λ (x : ℕ). IsOne (bit_and x y) ↔ (IsOne x × IsOne y)) (sym a) (elim (is_bit y ly) [
    | inl b ↦ subst (λ (y : ℕ). IsOne (bit_and 1 y) ↔ (IsOne 1 × IsOne y)) (sym b) ((λ e. absurd (zero_one e)), (λ e. absurd (zero_one e.1)))
    | inr b ↦ subst (λ (y : ℕ). IsOne (bit_and 1 y) ↔ (IsOne 1 × IsOne y)) (sym b) ((λ e. (refl, refl)), (λ e. refl))
  ])
]

or_holds : (x y : ℕ) → x < 2 → y < 2 → IsOne (bit_or x y) ↔ (IsOne x ⊎ IsOne y)
or_holds x y lx ly = elim (is_bit x lx) [
  | inl a ↦ subst (λ (x : ℕ). IsOne (bit_or x y) ↔ (IsOne x ⊎ IsOne y)) (sym a) (elim (is_bit y ly) [
    | inl b ↦ subst (λ (y : ℕ). IsOne (bit_or 0 y) ↔ (IsOne 0 ⊎ IsOne y)) (sym b) ((λ e. absurd (zero_one e)), (λ e. elim e [ inl p ↦ absurd (zero_one p) | inr p ↦ absurd (zero_one p) ]))
    | inr b ↦ subst (λ (y : ℕ). IsOne (bit_or 0 y) ↔ (IsOne 0 ⊎ IsOne y)) (sym b) ((λ e. inr refl), (λ e. refl))
  ])
  | inr a ↦ subst (λ (x : ℕ). IsOne (bit_or x y) ↔ (IsOne x ⊎ IsOne y)) (sym a) (elim (is_bit y ly) [
    | inl b ↦ subst (λ (y : ℕ). IsOne (bit_or 1 y) ↔ (IsOne 1 ⊎ IsOne y)) (sym b) ((λ e. inl refl), (λ e. refl))
    | inr b ↦ subst (λ (y : ℕ). IsOne (bit_or 1 y) ↔ (IsOne 1 ⊎ IsOne y)) (sym b) ((λ e. inl refl), (λ e. refl))
  ])
]

-- a bit of a table is below 2 in a store
bit_below : (b : Table) (t : TermId) (store : List ℕ) → IsTable b → HasWidth b t 1 → IsStore b.cells store → value b store t < 2
bit_below b t store is h s =
    let lt : value b store t < 2 ^ slice_index (widths b) t.0 = values_fit b store t is s h.0 in
    let P : ℕ → Type 0 = λ w. value b store t < 2 ^ w in
    let one : value b store t < 2 ^ 1 = subst P h.1 lt in
    omega (arith, one)

and_value : (a b : Table) (t u id : TermId) (store : List ℕ) → IsTable b → Extends a b → slice_get b.terms id.0 ≡ Some (And t u) → HasWidth a t 1 → HasWidth a u 1 → IsStore b.cells store
    → (Holds b store id) ↔ ((Holds a store t) × (Holds a store u))
and_value a b t u id store is g s h k st =
    let o = (over b store id.0 (And t u) is s).1.1 in
    let xs = (over b store id.0 (And t u) is s).1.0 in
    let x : slice_index xs t.0 ≡ value a store t = o.seen t.0 (omega (arith, o.fits.0, o.many)) ∙ values_stay a b store t g h.0 in
    let y : slice_index xs u.0 ≡ value a store u = o.seen u.0 (omega (arith, o.fits.1, o.many)) ∙ values_stay a b store u g k.0 in
    let v : value b store id ≡ bit_and (value a store t) (value a store u) = o.value ∙ ap (λ (n : ℕ). bit_and n (slice_index xs u.0)) x ∙ ap (bit_and (value a store t)) y in
    let lt : value a store t < 2 = (let e = values_stay a b store t g h.0 in omega (arith, bit_below b t store is (bit_stays a b t g h) st, e)) in
    let lu : value a store u < 2 = (let e = values_stay a b store u g k.0 in omega (arith, bit_below b u store is (bit_stays a b u g k) st, e)) in
    let r = and_holds (value a store t) (value a store u) lt lu in
    ((λ e. r.0 (sym v ∙ e)), (λ e. v ∙ r.1 e))

or_value : (a b : Table) (t u id : TermId) (store : List ℕ) → IsTable b → Extends a b → slice_get b.terms id.0 ≡ Some (Or t u) → HasWidth a t 1 → HasWidth a u 1 → IsStore b.cells store
    → (Holds b store id) ↔ ((Holds a store t) ⊎ (Holds a store u))
or_value a b t u id store is g s h k st =
    let o = (over b store id.0 (Or t u) is s).1.1 in
    let xs = (over b store id.0 (Or t u) is s).1.0 in
    let x : slice_index xs t.0 ≡ value a store t = o.seen t.0 (omega (arith, o.fits.0, o.many)) ∙ values_stay a b store t g h.0 in
    let y : slice_index xs u.0 ≡ value a store u = o.seen u.0 (omega (arith, o.fits.1, o.many)) ∙ values_stay a b store u g k.0 in
    let v : value b store id ≡ bit_or (value a store t) (value a store u) = o.value ∙ ap (λ (n : ℕ). bit_or n (slice_index xs u.0)) x ∙ ap (bit_or (value a store t)) y in
    let lt : value a store t < 2 = (let e = values_stay a b store t g h.0 in omega (arith, bit_below b t store is (bit_stays a b t g h) st, e)) in
    let lu : value a store u < 2 = (let e = values_stay a b store u g k.0 in omega (arith, bit_below b u store is (bit_stays a b u g k) st, e)) in
    let r = or_holds (value a store t) (value a store u) lt lu in
    ((λ e. r.0 (sym v ∙ e)), (λ e. v ∙ r.1 e))

-- a constant
constant_bit : (b : Table) (id : TermId) (n : ℕ) → IsTable b → slice_get b.terms id.0 ≡ Some (Constant 1 n) → HasWidth b id 1
constant_bit b id n is s = (there_below b.terms id.0 (Constant 1 n) s, (over b [] id.0 (Constant 1 n) is s).1.1.width)

constant_value : (b : Table) (id : TermId) (n : ℕ) (store : List ℕ) → IsTable b → slice_get b.terms id.0 ≡ Some (Constant 1 n) → value b store id ≡ n
constant_value b id n store is s = (over b store id.0 (Constant 1 n) is s).1.1.value

-- of calls' results
pub and_bits : {E : Type 0} (r : Result TermId E) (a b : Table) (t u : TermId) → IsTable b → Extends a b → IfOk r (λ id. slice_get b.terms id.0 ≡ Some (And t u)) → HasWidth a t 1
    → IfOk r (λ id. HasWidth b id 1)
and_bits (Ok id) a b t u is g s h = and_bit a b t u id is g s h
and_bits (Err e) a b t u is g s h = tt

pub or_bits : {E : Type 0} (r : Result TermId E) (a b : Table) (t u : TermId) → IsTable b → Extends a b → IfOk r (λ id. slice_get b.terms id.0 ≡ Some (Or t u)) → HasWidth a t 1
    → IfOk r (λ id. HasWidth b id 1)
or_bits (Ok id) a b t u is g s h = or_bit a b t u id is g s h
or_bits (Err e) a b t u is g s h = tt

pub and_told : {E : Type 0} (r : Result TermId E) (a b : Table) (t u : TermId) → IsTable b → Extends a b → IfOk r (λ id. slice_get b.terms id.0 ≡ Some (And t u)) → HasWidth a t 1 → HasWidth a u 1
    → IfOk r (λ id. (store : List ℕ) → IsStore b.cells store → (Holds b store id) ↔ ((Holds a store t) × (Holds a store u)))
and_told (Ok id) a b t u is g s h k = λ store st. and_value a b t u id store is g s h k st
and_told (Err e) a b t u is g s h k = tt

pub or_told : {E : Type 0} (r : Result TermId E) (a b : Table) (t u : TermId) → IsTable b → Extends a b → IfOk r (λ id. slice_get b.terms id.0 ≡ Some (Or t u)) → HasWidth a t 1 → HasWidth a u 1
    → IfOk r (λ id. (store : List ℕ) → IsStore b.cells store → (Holds b store id) ↔ ((Holds a store t) ⊎ (Holds a store u)))
or_told (Ok id) a b t u is g s h k = λ store st. or_value a b t u id store is g s h k st
or_told (Err e) a b t u is g s h k = tt

-- labels

-- the empty label is true
pub empty_label : {E : Type 0} (r : Result TermId E) (old b : Table) (label : List TermId) → IsTable b → length label ≡ 0 → IfOk r (λ id. slice_get b.terms id.0 ≡ Some (Constant 1 1)) → IfOk r (λ id. IsLabel old b label id)
empty_label (Ok id) old b label is e s = record {
  bit = constant_bit b id 1 is s;
  told = λ store st. ((λ h k d lt. absurd (omega (arith, lt, e))), (λ h. constant_value b id 1 store is s));
}
empty_label (Err x) old b label is e s = tt

-- a first conjunct is what it is
pub first_label : (old a : Table) (ps : List TermId) (label : List TermId) (t : TermId) → 0 < length label → t ≡ slice_index_or label 0 t → IsPlaced old a ps t → IsLabel old a (take 1 label) (place_of ps t)
first_label old a ps [] t lt e h = absurd (omega (arith, lt))
first_label old a ps (x ∷ label) t lt e h =
    subst (λ (y : TermId). IsLabel old a (y ∷ []) (place_of ps t)) e (record {
      bit = (h.copy.there, h.copy.width ∙ h.width.1);
      told = λ store st. ((λ p. one store t (sym (h.copy.told store) ∙ p)), (λ m. h.copy.told store ∙ m 0 t (omega arith)));
    })
  where
    one : (store : List ℕ) (t : TermId) → Holds old store t → Meets old store (t ∷ [])
    one store t p zero d lt = p
    one store t p (suc k) d lt = absurd (omega (arith, lt))

meets_front : (table : Table) (store : List ℕ) (label : List TermId) (f : TermId) → Meets table store (label ++ f ∷ []) → Meets table store label
meets_front table store [] f m k d lt = absurd (omega (arith, lt))
meets_front table store (x ∷ label) f m zero d lt = m 0 d (omega arith)
meets_front table store (x ∷ label) f m (suc k) d lt = meets_front table store label f (λ j e l. m (suc j) e (omega (arith, l))) k d (omega (arith, lt))

meets_last : (table : Table) (store : List ℕ) (label : List TermId) (f : TermId) → Meets table store (label ++ f ∷ []) → Holds table store f
meets_last table store [] f m = m 0 f (omega arith)
meets_last table store (x ∷ label) f m = meets_last table store label f (λ j e l. m (suc j) e (omega (arith, l)))

meets_more : (table : Table) (store : List ℕ) (label : List TermId) (f : TermId) → Meets table store label → Holds table store f → Meets table store (label ++ f ∷ [])
meets_more table store [] f m h zero d lt = h
meets_more table store [] f m h (suc k) d lt = absurd (omega (arith, lt))
meets_more table store (x ∷ label) f m h zero d lt = m 0 d (omega arith)
meets_more table store (x ∷ label) f m h (suc k) d lt = meets_more table store label f (λ j e l. m (suc j) e (omega (arith, l))) h k d (omega (arith, lt))

take_one_more : (label : List TermId) (n : ℕ) (t : TermId) → n < length label → t ≡ slice_index_or label n t → take (n + 1) label ≡ take n label ++ t ∷ []
take_one_more [] n t lt e = absurd (omega (arith, lt))
take_one_more (x ∷ label) zero t lt e = ap (λ (y : TermId). y ∷ []) (sym e)
take_one_more (x ∷ label) (suc n) t lt e =
    let z : suc n + 1 ≡ suc (n + 1) = omega arith in
    rw z (ap (λ (w : List TermId). x ∷ w) (take_one_more label n t (omega (arith, lt)) e))

pub label_stays : (old a b : Table) (label : List TermId) (t : TermId) → Extends a b → IsLabel old a label t → IsLabel old b label t
label_stays old a b label t g h = record {
  bit = bit_stays a b t g h.bit;
  told = λ store st.
      let s : IsStore a.cells store = subst (λ (cs : List ℕ). IsStore cs store) g.0 st in
      let e = values_stay a b store t g h.bit.0 in
      ((λ p. (h.told store s).0 (sym e ∙ p)), (λ m. e ∙ (h.told store s).1 m));
}

-- a further conjunct
pub more_label : (old a b : Table) (ps label : List TermId) (n : ℕ) (x : TermId) (joined id : TermId) → n < length label → x ≡ slice_index_or label n x → IsPlaced old a ps x
    → Extends a b → HasWidth b id 1 → ((store : List ℕ) → IsStore b.cells store → (Holds b store id) ↔ ((Holds a store joined) × (Holds a store (place_of ps x))))
    → IsLabel old a (take n label) joined → IsLabel old b (take (n + 1) label) id
more_label old a b ps label n x joined id lt e p g bit tell h =
    subst (λ (w : List TermId). IsLabel old b w id) (sym (take_one_more label n x lt e)) (record {
      bit = bit;
      told = λ store st.
          let s : IsStore a.cells store = subst (λ (cs : List ℕ). IsStore cs store) g.0 st in (
            (λ q. let r = (tell store st).0 q in meets_more old store (take n label) x ((h.told store s).0 r.0) (sym (p.copy.told store) ∙ r.1)),
            (λ m. (tell store st).1 ((h.told store s).1 (meets_front old store (take n label) x m), p.copy.told store ∙ meets_last old store (take n label) x m)),
          );
    })

-- the whole label
pub whole_label : (old a : Table) (label : List TermId) (n : ℕ) (t : TermId) → length label ≤ n → IsLabel old a (take n label) t → IsLabel old a label t
whole_label old a label n t le h = subst (λ (w : List TermId). IsLabel old a w t) (take_all label n le) h
  where
    take_all : (w : List TermId) (n : ℕ) → length w ≤ n → take n w ≡ w
    take_all [] zero le = refl
    take_all [] (suc n) le = refl
    take_all (x ∷ w) zero le = absurd (omega (arith, le))
    take_all (x ∷ w) (suc n) le = ap (λ (v : List TermId). x ∷ v) (take_all w n (omega (arith, le)))

pub placed_stays : (old a b : Table) (ps : List TermId) (t : TermId) → Extends a b → IsPlaced old a ps t → IsPlaced old b ps t
placed_stays old a b ps t g h = record { below = h.below; width = h.width; copy = copy_stays old a b t.0 (place_of ps t) g h.copy }

pub all_placed_stay : (u : Unwound) (nodes : ℕ) (a b : Table) (ps : List TermId) → Extends a b → ArePlaced u nodes a ps → ArePlaced u nodes b ps
all_placed_stay u nodes a b ps g h k lt c i d l = placed_stays u.terms a b ps (slice_index_or (vertex_at u.vertices k).label i d) g (h k lt c i d l)

-- formulas

pub formula_stays : (u : Unwound) (nodes node n : ℕ) (a b : Table) (t : TermId) → Extends a b → IsFormula u nodes node n a t → IsFormula u nodes node n b t
formula_stays u nodes node n a b t g h = record {
  bit = bit_stays a b t g h.bit;
  told = λ store st.
      let s : IsStore a.cells store = subst (λ (cs : List ℕ). IsStore cs store) g.0 st in
      let e = values_stay a b store t g h.bit.0 in
      ((λ p. (h.told store s).0 (sym e ∙ p)), (λ m. e ∙ (h.told store s).1 m));
}

pub part_stays : (u : Unwound) (nodes node n : ℕ) (a b : Table) (o : Option TermId) → Extends a b → IsPart u nodes node n a o → IsPart u nodes node n b o
part_stays u nodes node n a b None g h = h
part_stays u nodes node n a b (Some t) g h = formula_stays u nodes node n a b t g h

-- a store that meets a label among the first meets it among more, and the other way where the next one is not it
met_more : (u : Unwound) (nodes node n : ℕ) (store : List ℕ) → SomeMet u nodes node n store → SomeMet u nodes node (n + 1) store
met_more u nodes node n store m = record { at = m.at; first = omega (arith, m.first); counted = m.counted; here = m.here; met = m.met }

met_last : (u : Unwound) (nodes node n : ℕ) (store : List ℕ) → SomeMet u nodes node (n + 1) store
    → (SomeMet u nodes node n store) ⊎ ((counts u nodes n ≡ true) × ((vertex_at u.vertices n).node.0 ≡ node) × Meets u.terms store (vertex_at u.vertices n).label)
met_last u nodes node n store m = elim (cases_eq m.at n) [
  | inl q ↦ inr (subst (λ (j : ℕ). (counts u nodes j ≡ true) × ((vertex_at u.vertices j).node.0 ≡ node) × Meets u.terms store (vertex_at u.vertices j).label) q (m.counted, m.here, m.met))
  | inr d ↦ inl (record { at = m.at; first = (let ne : m.at ≢ n = d in omega (arith, m.first, ne)); counted = m.counted; here = m.here; met = m.met })
]

-- a vertex that does not count, or is at another node, changes nothing
pub part_passed : (u : Unwound) (nodes node n : ℕ) (a : Table) (o : Option TermId) → (counts u nodes n ≡ true → (vertex_at u.vertices n).node.0 ≡ node → ⊥)
    → IsPart u nodes node n a o → IsPart u nodes node (n + 1) a o
part_passed u nodes node n a None other h = λ store m. elim (met_last u nodes node n store m) [ inl k ↦ h store k | inr k ↦ other k.0 k.1 ]
part_passed u nodes node n a (Some t) other h = record {
  bit = h.bit;
  told = λ store st. (
    (λ p. met_more u nodes node n store ((h.told store st).0 p)),
    (λ m. elim (met_last u nodes node n store m) [ inl k ↦ (h.told store st).1 k | inr k ↦ absurd (other k.0 k.1) ]),
  );
}

-- a vertex that counts joins its label
pub part_joined : (u : Unwound) (nodes node n : ℕ) (a b : Table) (o : Option TermId) (label id : TermId) → counts u nodes n ≡ true → (vertex_at u.vertices n).node.0 ≡ node
    → Extends a b → IsLabel u.terms a (vertex_at u.vertices n).label label → HasWidth b id 1
    → ((store : List ℕ) → IsStore b.cells store → (Holds b store id) ↔ (EitherHolds a store o label))
    → IsPart u nodes node n a o → IsFormula u nodes node (n + 1) b id
part_joined u nodes node n a b None label id c at g l bit tell h = record {
  bit = bit;
  told = λ store st.
      let s : IsStore a.cells store = subst (λ (cs : List ℕ). IsStore cs store) g.0 st in (
        (λ p. record { at = n; first = omega arith; counted = c; here = at; met = (l.told store s).0 ((tell store st).0 p) }),
        (λ m. (tell store st).1 (elim (met_last u nodes node n store m) [ inl k ↦ absurd (h store k) | inr k ↦ (l.told store s).1 k.2 ])),
      );
}
part_joined u nodes node n a b (Some t) label id c at g l bit tell h = record {
  bit = bit;
  told = λ store st.
      let s : IsStore a.cells store = subst (λ (cs : List ℕ). IsStore cs store) g.0 st in (
        (λ p. elim ((tell store st).0 p) [
          | inl q ↦ met_more u nodes node n store ((h.told store s).0 q)
          | inr q ↦ record { at = n; first = omega arith; counted = c; here = at; met = (l.told store s).0 q }
        ]),
        (λ m. (tell store st).1 (elim (met_last u nodes node n store m) [ inl k ↦ inl ((h.told store s).1 k) | inr k ↦ inr ((l.told store s).1 k.2) ])),
      );
}

-- all parts, where the next vertex does not count
pub parts_passed : (u : Unwound) (n : ℕ) (a : Table) (parts : List (Option TermId)) → counts u (length parts) n ≡ false → AreParts u n a parts → AreParts u (n + 1) a parts
parts_passed u n a parts off h v lt = part_passed u (length parts) v n a (slice_index_or parts v None) (λ c e. absurd cc) (h v lt)

-- all parts, where it does
pub parts_joined : (u : Unwound) (n node : ℕ) (a b c : Table) (parts : List (Option TermId)) (label id : TermId) → counts u (length parts) n ≡ true → (vertex_at u.vertices n).node.0 ≡ node → node < length parts
    → Extends a b → Extends b c → IsLabel u.terms b (vertex_at u.vertices n).label label → HasWidth c id 1
    → ((store : List ℕ) → IsStore c.cells store → (Holds c store id) ↔ (EitherHolds b store (slice_index_or parts node None) label))
    → AreParts u n a parts → AreParts u (n + 1) c (slice_set parts node (Some id))
parts_joined u n node a b c parts label id co at lt g k l bit tell h v less =
    let size : length (slice_set parts node (Some id)) ≡ length parts = length-set parts node (Some id) in
    let inside : v < length parts = omega (arith, less, size) in
    let P : ℕ → Type 0 = λ nodes. IsPart u nodes v (n + 1) c (slice_index_or (slice_set parts node (Some id)) v None) in
    subst P (sym size) (elim (cases_eq v node) [
      | inl q ↦
          let here : slice_index_or (slice_set parts node (Some id)) v None ≡ Some id = ap (λ (j : ℕ). slice_index_or (slice_set parts node (Some id)) j None) q ∙ get_or-set_same parts node (Some id) None lt in
          let was : IsPart u (length parts) node n b (slice_index_or parts node None) = part_stays u (length parts) node n a b (slice_index_or parts node None) g (h node lt) in
          let new : IsFormula u (length parts) node (n + 1) c id = part_joined u (length parts) node n b c (slice_index_or parts node None) label id co at k l bit tell was in
          subst (λ (o : Option TermId). IsPart u (length parts) v (n + 1) c o) (sym here) (subst (λ (j : ℕ). IsFormula u (length parts) j (n + 1) c id) (sym q) new)
      | inr d ↦
          let ne : v ≢ node = d in
          let other : slice_index_or (slice_set parts node (Some id)) v None ≡ slice_index_or parts v None = get_or-set_other parts node v (Some id) None ne in
          let was : IsPart u (length parts) v n c (slice_index_or parts v None) = part_stays u (length parts) v n b c (slice_index_or parts v None) k (part_stays u (length parts) v n a b (slice_index_or parts v None) g (h v inside)) in
          subst (λ (o : Option TermId). IsPart u (length parts) v (n + 1) c o) (sym other) (part_passed u (length parts) v n c (slice_index_or parts v None) (λ x y. ne (sym y ∙ at)) was)
    ])

pub part_term : (u : Unwound) (nodes node n : ℕ) (a : Table) (o : Option TermId) → IsPart u nodes node n a o → IsTermOrNone a o
part_term u nodes node n a None h = tt
part_term u nodes node n a (Some t) h = h.bit

pub term_stays : (a b : Table) (o : Option TermId) → Extends a b → IsTermOrNone a o → IsTermOrNone b o
term_stays a b None g h = tt
term_stays a b (Some t) g h = bit_stays a b t g h

pub filled_stays : (old a b : Table) (o : Option TermId) (t : TermId) → Extends a b → IsFilled old a o t → IsFilled old b o t
filled_stays old a b None t g h = (bit_stays a b t g h.0, λ store p. h.1 store (sym (values_stay a b store t g h.0.0) ∙ p))
filled_stays old a b (Some f) t g h = (bit_stays a b t g h.0, λ store. values_stay a b store t g h.0.0 ∙ h.1 store)

pub filled_from : (a b c : Table) (o : Option TermId) (t : TermId) → Extends a b → IsTermOrNone a o → IsFilled b c o t → IsFilled a c o t
filled_from a b c None t g i h = h
filled_from a b c (Some f) t g i h = (h.0, λ store. h.1 store ∙ values_stay a b store f g i.0)

pub filled_none : (a b : Table) (parts : List (Option TermId)) → AreFilled a b parts []
filled_none a b parts v d lt = absurd (omega (arith, lt))

pub filled_push : (a b c : Table) (parts : List (Option TermId)) (ts : List TermId) (t : TermId) → Extends b c → IsFilled a c (slice_index_or parts (length ts) None) t → AreFilled a b parts ts → AreFilled a c parts (ts ++ t ∷ [])
filled_push a b c parts ts t g new h v d lt = elim (cases_lt v (length ts)) [
  | inl less ↦ subst (λ (i : TermId). IsFilled a c (slice_index_or parts v None) i) (sym (get_or_append_left ts (t ∷ []) d v less)) (filled_stays a b c (slice_index_or parts v None) (slice_index_or ts v d) g (h v d less))
  | inr le ↦
      let q : length ts ≡ v = omega (arith, le, lt, length-append ts (t ∷ [])) in
      let z : length ts + 0 ≡ v = omega (arith, q) in
      let here : slice_index_or (ts ++ t ∷ []) v d ≡ t = ap (λ (j : ℕ). slice_index_or (ts ++ t ∷ []) j d) (sym z) ∙ get_or-append-add ts (t ∷ []) 0 d in
      subst (λ (i : TermId). IsFilled a c (slice_index_or parts v None) i) (sym here) (subst (λ (j : ℕ). IsFilled a c (slice_index_or parts j None) t) q new)
]

-- of a call's result
pub none_filled : {E : Type 0} (r : Result TermId E) (a b : Table) → IsTable b → IfOk r (λ id. slice_get b.terms id.0 ≡ Some (Constant 1 0)) → IfOk r (λ id. IsFilled a b None id)
none_filled (Ok id) a b is s = (constant_bit b id 0 is s, λ store p. absurd (let e = constant_value b id 0 store is s in omega (arith, e, p)))
none_filled (Err x) a b is s = tt

-- what is read of a vertex
pub vertex_read : (vs us : List Vertex) (k : ℕ) (d : Vertex) → vs ≡ us → k < length us → slice_index_or vs k d ≡ vertex_at us k
vertex_read vs us k d e lt = ap (λ (w : List Vertex). slice_index_or w k d) e ∙ any us k lt
  where
    any : (w : List Vertex) (j : ℕ) → j < length w → slice_index_or w j d ≡ vertex_at w j
    any [] j lt = absurd (omega (arith, lt))
    any (x ∷ w) zero lt = refl
    any (x ∷ w) (suc j) lt = any w j (omega (arith, lt))

pub same_default : (ts : List TermId) (k : ℕ) (d e : TermId) → k < length ts → slice_index_or ts k d ≡ slice_index_or ts k e
same_default [] k d e lt = absurd (omega (arith, lt))
same_default (x ∷ ts) zero d e lt = refl
same_default (x ∷ ts) (suc k) d e lt = same_default ts k d e (omega (arith, lt))

-- a vertex that counts is at a node
pub counts_below : (u : Unwound) (nodes k : ℕ) → counts u nodes k ≡ true → (vertex_at u.vertices k).node.0 < nodes
counts_below u nodes k h = ltb-true (vertex_at u.vertices k).node.0 nodes (and_parts (nat_lt (vertex_at u.vertices k).node.0 nodes) (not (is_covered u (record { 0 = k }))) h).0

pub placed_bit : (old a : Table) (ps : List TermId) (t : TermId) → IsPlaced old a ps t → HasWidth a (place_of ps t) 1
placed_bit old a ps t h = (h.copy.there, h.copy.width ∙ h.width.1)
