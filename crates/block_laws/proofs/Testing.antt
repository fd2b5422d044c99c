-- Terms in stores that agree on the cells that they are said to read, and complements.
use Rattle.std.proofs.Common.{◌≡◌, ℕ, ◌+◌, ◌<◌, ◌≤◌, ◌%◌, ◌^◌, ◌==◌, ◌⊎◌, inl, inr, true, false, List, [], ◌∷◌, Some, refl, sym, ap, ◌∙◌, zero, suc, length, arith, slice_index, slice_get, nat_lt, if◌then◌else◌, bit_and, bit_or, bit_xor}
use Rattle.std.proofs.lemmas.Bool.{cases_Bool, ltb-true}
use Rattle.bv_term.specs.declared.term.TermId.{TermId}
use Rattle.bv_term.specs.declared.term.Term.{Term}
use Rattle.bv_term.specs.declared.term.Term.TheVariants.{Constant, Cell, Element, Add, Subtract, Multiply, Divide, Remainder, And, Or, Xor, Not, ShiftLeft, ShiftRight, ShiftSigned, Equal, Less, LessSigned, Select, ZeroExtend, SignExtend, Truncate, Bit}
use Rattle.bv_term.specs.Numbers.{sum_in, difference_in, product_in, quotient_of, remainder_of, complement_in, left_in, right_in, signed_right_in, raised, truth, sign_extended, bit_of}
use Rattle.bv_term.specs.WellFormed.{Table, IsTable, Fits, widths}
use Rattle.bv_term.specs.Values.{value, value_in, values}
use Rattle.bv_term.proofs.Staying.{one_for_each}
use Rattle.term_laws.specs.Operands.{OnOperands}
use Rattle.term_laws.proofs.Made.{made, onto}
use Rattle.block_rule.specs.Plans.{Plan}
use Rattle.block_rule.specs.Tests.{ReadsOwn, ReadsOperand, AreReads}
use Rattle.block_rule.specs.Blocked.{Agree}
use Rattle.block_laws.specs.Testing.{ReadsTell, ComplementsExclude}

pair : (P Q : TermId → Type 0) (u : Term) → OnOperands P u → OnOperands Q u → OnOperands (λ i. P i × Q i) u
pair P Q (Constant w v) p q = tt
pair P Q (Cell c) p q = tt
pair P Q (Element first n i) p q = (p, q)
pair P Q (Add i j) p q = ((p.0, q.0), (p.1, q.1))
pair P Q (Subtract i j) p q = ((p.0, q.0), (p.1, q.1))
pair P Q (Multiply i j) p q = ((p.0, q.0), (p.1, q.1))
pair P Q (Divide i j) p q = ((p.0, q.0), (p.1, q.1))
pair P Q (Remainder i j) p q = ((p.0, q.0), (p.1, q.1))
pair P Q (And i j) p q = ((p.0, q.0), (p.1, q.1))
pair P Q (Or i j) p q = ((p.0, q.0), (p.1, q.1))
pair P Q (Xor i j) p q = ((p.0, q.0), (p.1, q.1))
pair P Q (Not i) p q = (p, q)
pair P Q (ShiftLeft i j) p q = ((p.0, q.0), (p.1, q.1))
pair P Q (ShiftRight i j) p q = ((p.0, q.0), (p.1, q.1))
pair P Q (ShiftSigned i j) p q = ((p.0, q.0), (p.1, q.1))
pair P Q (Equal i j) p q = ((p.0, q.0), (p.1, q.1))
pair P Q (Less i j) p q = ((p.0, q.0), (p.1, q.1))
pair P Q (LessSigned i j) p q = ((p.0, q.0), (p.1, q.1))
pair P Q (Select i j k) p q = ((p.0, q.0), (p.1, q.1), (p.2, q.2))
pair P Q (ZeroExtend w i) p q = (p, q)
pair P Q (SignExtend w i) p q = (p, q)
pair P Q (Truncate w i) p q = (p, q)
pair P Q (Bit n i) p q = (p, q)

two : (f : ℕ → ℕ → ℕ) (a b c d : ℕ) → a ≡ b → c ≡ d → f a c ≡ f b d
two f a b c d p q = ap (λ (x : ℕ). f x c) p ∙ ap (f b) q

-- the cells that a term reads by itself hold the same
abbrev SameOwn : List ℕ → List ℕ → Term → Type 0
SameOwn s t (Cell c) = slice_index s c ≡ slice_index t c
SameOwn s t (Element first n i) = (j : ℕ) → j < n → slice_index s (first + j) ≡ slice_index t (first + j)
SameOwn s t _ = Unit {0}

module _ (s t ws xs ys : List ℕ) where
  abbrev SameAt : TermId → Type 0
  SameAt i = slice_index xs i.0 ≡ slice_index ys i.0

  alike : (u : Term) → OnOperands SameAt u → SameOwn s t u → value_in s ws xs u ≡ value_in t ws ys u
  alike (Constant w v) p o = refl
  alike (Cell c) p o = o
  alike (Element first n i) p o = elim (cases_Bool (nat_lt (slice_index xs i.0) n)) [
    | inl y ↦
        let z : nat_lt (slice_index ys i.0) n ≡ true = ap (λ (x : ℕ). nat_lt x n) (sym p) ∙ y in
        rw (y, z) (o (slice_index xs i.0) (ltb-true (slice_index xs i.0) n y) ∙ ap (λ (x : ℕ). slice_index t (first + x)) p)
    | inr y ↦ let z : nat_lt (slice_index ys i.0) n ≡ false = ap (λ (x : ℕ). nat_lt x n) (sym p) ∙ y in rw (y, z) refl
  ]
  alike (Add i j) p o = two (sum_in (slice_index ws i.0)) _ _ _ _ p.0 p.1
  alike (Subtract i j) p o = two (difference_in (slice_index ws i.0)) _ _ _ _ p.0 p.1
  alike (Multiply i j) p o = two (product_in (slice_index ws i.0)) _ _ _ _ p.0 p.1
  alike (Divide i j) p o = two quotient_of _ _ _ _ p.0 p.1
  alike (Remainder i j) p o = two remainder_of _ _ _ _ p.0 p.1
  alike (And i j) p o = two bit_and _ _ _ _ p.0 p.1
  alike (Or i j) p o = two bit_or _ _ _ _ p.0 p.1
  alike (Xor i j) p o = two bit_xor _ _ _ _ p.0 p.1
  alike (Not i) p o = ap (complement_in (slice_index ws i.0)) p
  alike (ShiftLeft i j) p o = two (left_in (slice_index ws i.0)) _ _ _ _ p.0 p.1
  alike (ShiftRight i j) p o = two (right_in (slice_index ws i.0)) _ _ _ _ p.0 p.1
  alike (ShiftSigned i j) p o = two (signed_right_in (slice_index ws i.0)) _ _ _ _ p.0 p.1
  alike (Equal i j) p o = two (λ (x y : ℕ). truth (x == y)) _ _ _ _ p.0 p.1
  alike (Less i j) p o = two (λ (x y : ℕ). truth (nat_lt x y)) _ _ _ _ p.0 p.1
  alike (LessSigned i j) p o =
      two (λ (x y : ℕ). truth (nat_lt (raised (slice_index ws i.0) x) (raised (slice_index ws i.0) y))) _ _ _ _ p.0 p.1
  alike (Select i j k) p o =
      ap (λ (x : ℕ). if x == 1 then slice_index xs j.0 else slice_index xs k.0) p.0
      ∙ two (λ (x y : ℕ). if slice_index ys i.0 == 1 then x else y) _ _ _ _ p.1 p.2
  alike (ZeroExtend w i) p o = p
  alike (SignExtend w i) p o = ap (sign_extended (slice_index ws i.0) w) p
  alike (Truncate w i) p o = ap (λ (x : ℕ). x % 2 ^ w) p
  alike (Bit n i) p o = ap (bit_of n) p

own : (cells ws : List ℕ) (plan : Plan) (s t : List ℕ) (k : ℕ) (u : Term) → Fits cells ws u → ReadsOwn plan k u → Agree (length cells) (plan.reads k) s t → SameOwn s t u
own cells ws plan s t k (Constant w v) f r a = tt
own cells ws plan s t k (Cell c) f r a = a c f r
own cells ws plan s t k (Element first n i) f r a = λ j lt. let le = f.0.1 in a (first + j) (omega (arith, le, lt)) (r j lt)
own cells ws plan s t k (Add i j) f r a = tt
own cells ws plan s t k (Subtract i j) f r a = tt
own cells ws plan s t k (Multiply i j) f r a = tt
own cells ws plan s t k (Divide i j) f r a = tt
own cells ws plan s t k (Remainder i j) f r a = tt
own cells ws plan s t k (And i j) f r a = tt
own cells ws plan s t k (Or i j) f r a = tt
own cells ws plan s t k (Xor i j) f r a = tt
own cells ws plan s t k (Not i) f r a = tt
own cells ws plan s t k (ShiftLeft i j) f r a = tt
own cells ws plan s t k (ShiftRight i j) f r a = tt
own cells ws plan s t k (ShiftSigned i j) f r a = tt
own cells ws plan s t k (Equal i j) f r a = tt
own cells ws plan s t k (Less i j) f r a = tt
own cells ws plan s t k (LessSigned i j) f r a = tt
own cells ws plan s t k (Select i j l) f r a = tt
own cells ws plan s t k (ZeroExtend w i) f r a = tt
own cells ws plan s t k (SignExtend w i) f r a = tt
own cells ws plan s t k (Truncate w i) f r a = tt
own cells ws plan s t k (Bit n i) f r a = tt

there-or-not : (ts : List Term) (k : ℕ) → ((u : Term) × (slice_get ts k ≡ Some u)) ⊎ (length ts ≤ k)
there-or-not [] k = inr (omega arith)
there-or-not (u ∷ ts) zero = inl (u, refl)
there-or-not (u ∷ ts) (suc k) = elim (there-or-not ts k) [ inl h ↦ inl h | inr h ↦ inr (omega (arith, h)) ]

past-end : (xs : List ℕ) (k : ℕ) → length xs ≤ k → slice_index xs k ≡ 0
past-end [] k le = refl
past-end (x ∷ xs) zero le = absurd (omega (arith, le))
past-end (x ∷ xs) (suc k) le = past-end xs k (omega (arith, le))

module _ (table : Table) (plan : Plan) (is : IsTable table) (reads : AreReads table plan) (s t : List ℕ) where
  below : (bound : ℕ) (i : TermId) → i.0 < bound → Agree (length table.cells) (plan.reads i.0) s t → value table s i ≡ value table t i
  below zero i lt a = absurd (omega (arith, lt))
  below (suc bound) i lt a = elim (there-or-not table.terms i.0) [
    | inl there ↦
        let u : Term = there.0 in
        let one = made table s i there.0 is there.1 in
        let other = made table t i there.0 is there.1 in
        let r = reads i.0 there.0 there.1 in
        let both = pair (λ x. x.0 < i.0) (ReadsOperand plan i.0) there.0 one.before r.1 in
        let same : OnOperands (λ x. slice_index (values table s) x.0 ≡ slice_index (values table t) x.0) there.0 =
        onto (λ x. (x.0 < i.0) × ReadsOperand plan i.0 x) (λ x. slice_index (values table s) x.0 ≡ slice_index (values table t) x.0) there.0
        (λ x h. let less = h.0 in below bound x (omega (arith, lt, less)) (λ c le y. a c le (h.1 c y))) both in
        one.value
        ∙ alike s t (widths table) (values table s) (values table t) there.0 same (own table.cells (widths table) plan s t i.0 there.0 one.fits r.0 a)
        ∙ sym other.value
    | inr past ↦
        let le : length (values table s) ≤ i.0 = omega (arith, past, (one_for_each table s).1) in
        let le2 : length (values table t) ≤ i.0 = omega (arith, past, (one_for_each table t).1) in
        past-end (values table s) i.0 le ∙ sym (past-end (values table t) i.0 le2)
  ]

pub reads_tell : ReadsTell
reads_tell table plan is reads i s t a = below table plan is reads s t (suc i.0) i (omega arith) a

pub complements_exclude : ComplementsExclude
complements_exclude table t u is c = (λ s one other. apart s one other, λ s one other. apart s other one)
  where
    apart : (s : List ℕ) → value table s t ≡ 1 → value table s u ≡ 1 → ⊥
    apart s one other =
        let m = made table s u (Not t) is c.1 in
        let e : value table s u ≡ complement_in 1 1 = m.value ∙ ap (λ (w : ℕ). complement_in w (value table s t)) c.0.1 ∙ ap (complement_in 1) one in
        let z : 1 ≡ 0 = sym other ∙ e in
        absurd (omega (arith, z))
