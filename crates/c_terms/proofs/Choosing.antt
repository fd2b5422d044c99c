-- Which terms are made: one equation after another.
use Rattle.std.proofs.Common.{◌≡◌, ℕ, zero, suc, ◌+◌, ◌<◌, ◌≤◌, ◌^◌, ◌==◌, ◌&&◌, ◌↔◌, List, length, slice_index, refl, sym, ap, ◌∙◌, subst, arith, inl, inr, Bool, true, false, nat_lt, nat_le, if◌then◌else◌, Result, Ok, Err, ◌⊎◌, ltb-true, lt-ltb, le-ltb}
use Rattle.std.specs.Prelude.{IfOk}
use Rattle.std.proofs.lemmas.Bool.{leb-true, lt-leb, le-leb, eqb-true, eq-eqb, and_parts, and_from, cases_lt}
use Rattle.lv_base.specs.declared.fail.Memory.{Memory}
use Rattle.lv_base.specs.declared.kind.Kind.{Kind}
use Rattle.lv_base.specs.declared.kind.Model.{Model}
use Rattle.lv_base.specs.Integers.{width_of, is_signed}
use Rattle.bv_term.specs.declared.term.TermId.{TermId}
use Rattle.bv_term.specs.declared.term.Term.{Term}
use Rattle.bv_term.specs.declared.term.Term.TheVariants.{Constant, Cell, Element, Add, Subtract, Multiply, Divide, Remainder, And, Or, Xor, Not, ShiftLeft, ShiftRight, ShiftSigned, Equal, Less, LessSigned, Select, ZeroExtend, SignExtend, Truncate, Bit}
use Rattle.bv_term.specs.WellFormed.{Table, IsWidth, IsThere, AreAlike, IsArray, Fits, FitsTable, widths}
use Rattle.bv_term.specs.Keys.{put_of}
use Rattle.c_terms.specs.declared.words.Words.{Words}
use Rattle.c_terms.specs.Fitting.{is_width, is_there, are_alike, are_wide, is_array, fits_over, fits_in}
use Rattle.c_terms.specs.Made.{words_of, put_fit, put_unfit, put, narrow, widen, word_truncate, word_extend_sign, word_extend_zero}

-- ---- Whether a term is well formed, as a truth and as a type

below : (a b : ℕ) → (nat_lt a b ≡ true) ↔ (a < b)
below a b = (ltb-true a b, lt-ltb a b)

at-most : (a b : ℕ) → (nat_le a b ≡ true) ↔ (a ≤ b)
at-most a b = (leb-true a b, le-leb a b)

equal-to : (a b : ℕ) → ((a == b) ≡ true) ↔ (a ≡ b)
equal-to a b = (eqb-true a b, eq-eqb a b)

and-both : (x y : Bool) (P Q : Type 0) → ((x ≡ true) ↔ P) → ((y ≡ true) ↔ Q) → ((x && y) ≡ true) ↔ (P × Q)
and-both x y P Q p q =
    (λ e. (let z = and_parts x y e in (p.0 z.0, q.0 z.1)), λ h. and_from x y (p.1 h.0) (q.1 h.1))

and-three : (x y z : Bool) (P Q R : Type 0) → ((x ≡ true) ↔ P) → ((y ≡ true) ↔ Q) → ((z ≡ true) ↔ R) → ((x && (y && z)) ≡ true) ↔ (P × Q × R)
and-three x y z P Q R p q r = (
  λ e. (let g = and_parts x (y && z) e in let h = and_parts y z g.1 in (p.0 g.0, q.0 h.0, r.0 h.1)),
  λ h. and_from x (y && z) (p.1 h.0) (and_from y z (q.1 h.1) (r.1 h.2)),
)

width-iff : (w : ℕ) → (is_width w ≡ true) ↔ IsWidth w
width-iff w = and-both (nat_le 1 w) (nat_le w 128) (1 ≤ w) (w ≤ 128) (at-most 1 w) (at-most w 128)

there-iff : (ws : List ℕ) (i : TermId) → (is_there ws i ≡ true) ↔ IsThere ws i
there-iff ws i = below i.0 (length ws)

alike-iff : (ws : List ℕ) (i j : TermId) → (are_alike ws i j ≡ true) ↔ AreAlike ws i j
alike-iff ws i j = and-three _ _ _ _ _ _ (there-iff ws i) (there-iff ws j) (equal-to (slice_index ws i.0) (slice_index ws j.0))

wide-told : (cells : List ℕ) (first w n : ℕ) → are_wide cells first w n ≡ true → (k : ℕ) → k < n → slice_index cells (first + k) ≡ w
wide-told cells first w zero e k lt = omega (arith, lt)
wide-told cells first w (suc n) e k lt =
    let p = and_parts (are_wide cells first w n) (slice_index cells (first + n) == w) e in
    let last : slice_index cells (first + n) ≡ w = eqb-true (slice_index cells (first + n)) w p.1 in
    let cases : (k < n) ⊎ (n ≤ k) = cases_lt k n in
    elim cases [
      | inl l ↦ wide-told cells first w n p.0 k l
      | inr l ↦ (let same : k ≡ n = omega (arith, l, lt) in ap (λ (m : ℕ). slice_index cells (first + m)) same ∙ last)
    ]

wide-from : (cells : List ℕ) (first w n : ℕ) → ((k : ℕ) → k < n → slice_index cells (first + k) ≡ w) → are_wide cells first w n ≡ true
wide-from cells first w zero h = refl
wide-from cells first w (suc n) h =
    and_from (are_wide cells first w n) (slice_index cells (first + n) == w) (wide-from cells first w n (λ k lt. h k (omega (arith, lt)))) (eq-eqb (slice_index cells (first + n)) w (h n (omega arith)))

array-iff : (cells : List ℕ) (first n : ℕ) → (is_array cells first n ≡ true) ↔ IsArray cells first n
array-iff cells first n =
    and-three _ _ _ _ _ _ (at-most 1 n) (at-most (first + n) (length cells)) (wide-told cells first (slice_index cells first) n, wide-from cells first (slice_index cells first) n)

over-iff : (cells ws : List ℕ) (t : Term) → (fits_over cells ws t ≡ true) ↔ Fits cells ws t
over-iff cells ws (Constant w v) = and-both _ _ _ _ (width-iff w) (below v (2 ^ w))
over-iff cells ws (Cell c) = below c (length cells)
over-iff cells ws (Element first n i) = and-both _ _ _ _ (array-iff cells first n) (there-iff ws i)
over-iff cells ws (Add i j) = alike-iff ws i j
over-iff cells ws (Subtract i j) = alike-iff ws i j
over-iff cells ws (Multiply i j) = alike-iff ws i j
over-iff cells ws (Divide i j) = alike-iff ws i j
over-iff cells ws (Remainder i j) = alike-iff ws i j
over-iff cells ws (And i j) = alike-iff ws i j
over-iff cells ws (Or i j) = alike-iff ws i j
over-iff cells ws (Xor i j) = alike-iff ws i j
over-iff cells ws (Not i) = there-iff ws i
over-iff cells ws (ShiftLeft i j) = alike-iff ws i j
over-iff cells ws (ShiftRight i j) = alike-iff ws i j
over-iff cells ws (ShiftSigned i j) = alike-iff ws i j
over-iff cells ws (Equal i j) = alike-iff ws i j
over-iff cells ws (Less i j) = alike-iff ws i j
over-iff cells ws (LessSigned i j) = alike-iff ws i j
over-iff cells ws (Select i j k) = and-three _ _ _ _ _ _ (there-iff ws i) (equal-to (slice_index ws i.0) 1) (alike-iff ws j k)
over-iff cells ws (ZeroExtend w i) = and-three _ _ _ _ _ _ (there-iff ws i) (width-iff w) (at-most (slice_index ws i.0) w)
over-iff cells ws (SignExtend w i) = and-three _ _ _ _ _ _ (there-iff ws i) (width-iff w) (at-most (slice_index ws i.0) w)
over-iff cells ws (Truncate w i) = and-three _ _ _ _ _ _ (there-iff ws i) (width-iff w) (at-most w (slice_index ws i.0))
over-iff cells ws (Bit k i) = and-both _ _ _ _ (there-iff ws i) (below k (slice_index ws i.0))

pub fits-iff : (table : Table) (t : Term) → (fits_in table t ≡ true) ↔ FitsTable table t
fits-iff table t = over-iff table.cells (widths table) t

-- ---- What is put

one-truth : (x y : Bool) (P : Type 0) → ((x ≡ true) ↔ P) → ((y ≡ true) ↔ P) → x ≡ y
one-truth true true P p q = refl
one-truth false false P p q = refl
one-truth true false P p q = sym (q.1 (p.0 refl))
one-truth false true P p q = p.1 (q.0 refl)

put-as : (w : Words) (t : Term) (x y : Bool) → ((x ≡ true) ↔ FitsTable w.terms t) → x ≡ y → put w t ≡ (if y then put_fit w t else put_unfit w)
put-as w t x y h e =
    let same : fits_in w.terms t ≡ y = one-truth (fits_in w.terms t) x (FitsTable w.terms t) (fits-iff w.terms t) h ∙ e in
    ap (λ (z : Bool). if z then put_fit w t else put_unfit w) same

pub put-unfit : (w : Words) (t : Term) (x : Bool) → ((x ≡ true) ↔ FitsTable w.terms t) → x ≡ false → put_unfit w ≡ put w t
put-unfit w t x h e = sym (put-as w t x false h e)

pub put-made : (r : Result TermId Memory) (w : Words) (new : Table) (t : Term) (x : Bool) → ((x ≡ true) ↔ FitsTable w.terms t) → x ≡ true
    → IfOk r (λ id. (new, id) ≡ put_of w.terms t) → IfOk r (λ id. (words_of new w.is_sound, id) ≡ put w t)
put-made (Ok id) w new t x h e m =
    let p : (words_of new w.is_sound, id) ≡ put_fit w t = ap (λ (z : Table × TermId). (words_of z.0 w.is_sound, z.1)) m in
    p ∙ sym (put-as w t x true h e)
put-made (Err z) w new t x h e m = tt

-- ---- One equation after another

pub thus : {A : Type 0} (r : Result A Memory) (w : Words) (p q : Words × A) → IfOk r (λ t. (w, t) ≡ p) → p ≡ q → IfOk r (λ t. (w, t) ≡ q)
thus {A} r w p q h e = subst (λ (z : Words × A). IfOk r (λ t. (w, t) ≡ z)) e h

pub two : {A B C : Type 0} (f : A → B → C) {a b : A} {c d : B} → a ≡ b → c ≡ d → f a c ≡ f b d
two f {a} {b} {c} {d} p q = ap (λ x. f x c) p ∙ ap (f b) q

pub three : {A B C D : Type 0} (f : A → B → C → D) {a b : A} {c d : B} {x y : C} → a ≡ b → c ≡ d → x ≡ y → f a c x ≡ f b d y
three f {a} {b} {c} {d} {x} {y} p q r = ap (λ z. f z c x) p ∙ two (f b) q r

-- a choice whose test is known
pub holds : {A : Type 0} (test : Bool) (x y : A) → test ≡ true → x ≡ (if test then x else y)
holds test x y e = sym (ap (λ (z : Bool). if z then x else y) e)

pub fails : {A : Type 0} (test : Bool) (x y : A) → test ≡ false → y ≡ (if test then x else y)
fails test x y e = sym (ap (λ (z : Bool). if z then x else y) e)

-- ---- Values of slots

pub narrow-cut : (w : Words) (kind : Kind) (model : Model) (slot : TermId) (v : ℕ) → v ≡ width_of kind model → v < 64
    → word_truncate w v slot ≡ narrow w kind model slot
narrow-cut w kind model slot v e lt =
    ap (λ (n : ℕ). word_truncate w n slot) e
    ∙ holds (nat_lt (width_of kind model) 64) (word_truncate w (width_of kind model) slot) (w, slot) (lt-ltb (width_of kind model) 64 (omega (arith, e, lt)))

pub narrow-whole : (w : Words) (kind : Kind) (model : Model) (slot : TermId) (v : ℕ) → v ≡ width_of kind model → 64 ≤ v
    → (w, slot) ≡ narrow w kind model slot
narrow-whole w kind model slot v e le =
    fails (nat_lt (width_of kind model) 64) (word_truncate w (width_of kind model) slot) (w, slot) (le-ltb (width_of kind model) 64 (omega (arith, e, le)))

pub widen-whole : (w : Words) (kind : Kind) (model : Model) (bits : TermId) (v : ℕ) → v ≡ width_of kind model → 64 ≤ v
    → (w, bits) ≡ widen w kind model bits
widen-whole w kind model bits v e le =
    holds (nat_le 64 (width_of kind model)) (w, bits) (if is_signed kind then word_extend_sign w 64 bits else word_extend_zero w 64 bits) (le-leb 64 (width_of kind model) (omega (arith, e, le)))

widen-other : (w : Words) (kind : Kind) (model : Model) (bits : TermId) (v : ℕ) → v ≡ width_of kind model → v < 64
    → (if is_signed kind then word_extend_sign w 64 bits else word_extend_zero w 64 bits) ≡ widen w kind model bits
widen-other w kind model bits v e lt =
    fails (nat_le 64 (width_of kind model)) (w, bits) (if is_signed kind then word_extend_sign w 64 bits else word_extend_zero w 64 bits) (lt-leb 64 (width_of kind model) (omega (arith, e, lt)))

pub widen-signed : (w : Words) (kind : Kind) (model : Model) (bits : TermId) (v : ℕ) → v ≡ width_of kind model → v < 64 → is_signed kind ≡ true
    → word_extend_sign w 64 bits ≡ widen w kind model bits
widen-signed w kind model bits v e lt s =
    holds (is_signed kind) (word_extend_sign w 64 bits) (word_extend_zero w 64 bits) s ∙ widen-other w kind model bits v e lt

pub widen-unsigned : (w : Words) (kind : Kind) (model : Model) (bits : TermId) (v : ℕ) → v ≡ width_of kind model → v < 64 → is_signed kind ≡ false
    → word_extend_zero w 64 bits ≡ widen w kind model bits
widen-unsigned w kind model bits v e lt s =
    fails (is_signed kind) (word_extend_sign w 64 bits) (word_extend_zero w 64 bits) s ∙ widen-other w kind model bits v e lt
