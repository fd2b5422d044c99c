-- A term has one value in stores that agree on the cells that it names.
use Rattle.std.proofs.Common.{◌≡◌, ◌∙◌, inl, inr, ℕ, ◌+◌, ◌<◌, ◌%◌, ◌^◌, ◌==◌, true, false, List, [], ◌∷◌, ◌++◌, length, length-append, zero, suc, refl, sym, ap, subst, arith, slice_index, nat_lt, if◌then◌else◌, bit_and, bit_or, bit_xor}
use Rattle.std.specs.Prelude.{Contains}
use Rattle.std.proofs.lemmas.Bool.{cases_Bool, ltb-true}
use Rattle.std.proofs.lemmas.List.Elements.{Contains-append_left, Contains-append_right}
use Rattle.bv_term.specs.declared.term.TermId.{TermId}
use Rattle.bv_term.specs.declared.term.Term.{Term}
use Rattle.bv_term.specs.declared.term.Term.TheVariants.{Constant, Cell, Element, Add, Subtract, Multiply, Divide, Remainder, And, Or, Xor, Not, ShiftLeft, ShiftRight, ShiftSigned, Equal, Less, LessSigned, Select, ZeroExtend, SignExtend, Truncate, Bit}
use Rattle.bv_term.specs.Numbers.{sum_in, difference_in, product_in, quotient_of, remainder_of, complement_in, left_in, right_in, signed_right_in, raised, truth, sign_extended, bit_of}
use Rattle.bv_term.specs.WellFormed.{width_in}
use Rattle.bv_term.specs.Values.{value_in, values_after}
use Rattle.needed_cells.specs.Reads.{cells_from, list_at, named_after, named_in}
use Rattle.needed_cells.specs.Deciding.{AgreeOn, NamedCellsDecide}

pub agree-left : (xs ys s t : List ℕ) → AgreeOn (xs ++ ys) s t → AgreeOn xs s t
agree-left xs ys s t a c h = a c (Contains-append_left xs ys c h)

pub agree-right : (xs ys s t : List ℕ) → AgreeOn (xs ++ ys) s t → AgreeOn ys s t
agree-right xs ys s t a c h = a c (Contains-append_right xs ys c h)

has-cell : (first n j : ℕ) → j < n → Contains (cells_from first n) (first + j)
has-cell first zero j lt = absurd (omega (arith, lt))
has-cell first (suc n) zero lt = let e : first ≡ first + 0 = omega arith in (0, omega arith, e)
has-cell first (suc n) (suc j) lt =
    let e : (first + 1) + j ≡ first + suc j = omega arith in
    let (k, less, at) = has-cell (first + 1) n j (omega (arith, lt)) in
    subst (Contains (cells_from first (suc n))) e (suc k, omega (arith, less), at)

two : (f : ℕ → ℕ → ℕ) (a b c d : ℕ) → a ≡ b → c ≡ d → f a c ≡ f b d
two f a b c d p q = ap (λ (x : ℕ). f x c) p ∙ ap (f b) q

module _ (s t : List ℕ) where
  -- values of terms of which these lists give the cells: they are the same where the stores agree on those
  abbrev Decided : List (List ℕ) → List ℕ → List ℕ → Type 0
  Decided done xs ys = (k : ℕ) → AgreeOn (list_at done k) s t → slice_index xs k ≡ slice_index ys k

  module _ (done : List (List ℕ)) (ws xs ys : List ℕ) (d : Decided done xs ys) where
    one : (i : TermId) (f : ℕ → ℕ) → AgreeOn (list_at done i.0) s t → f (slice_index xs i.0) ≡ f (slice_index ys i.0)
    one i f a = ap f (d i.0 a)

    both : (i j : TermId) (f : ℕ → ℕ → ℕ) → AgreeOn (list_at done i.0 ++ list_at done j.0) s t
        → f (slice_index xs i.0) (slice_index xs j.0) ≡ f (slice_index ys i.0) (slice_index ys j.0)
    both i j f a =
        two f _ _ _ _ (d i.0 (agree-left (list_at done i.0) (list_at done j.0) s t a)) (d j.0 (agree-right (list_at done i.0) (list_at done j.0) s t a))

    alike : (u : Term) → AgreeOn (named_in done u) s t → value_in s ws xs u ≡ value_in t ws ys u
    alike (Constant w v) a = refl
    alike (Cell c) a = a c (0, omega arith, refl)
    alike (Element first n i) a =
        element (slice_index xs i.0) (slice_index ys i.0) (d i.0 (agree-right (cells_from first n) (list_at done i.0) s t a))
      where
        element : (x y : ℕ) → x ≡ y
            → (if nat_lt x n then slice_index s (first + x) else 0) ≡ (if nat_lt y n then slice_index t (first + y) else 0)
        element x y p = elim (cases_Bool (nat_lt x n)) [
          | inl e ↦
              let z : nat_lt y n ≡ true = ap (λ (m : ℕ). nat_lt m n) (sym p) ∙ e in
              let lt : x < n = ltb-true x n e in
              let h = agree-left (cells_from first n) (list_at done i.0) s t a (first + x) (has-cell first n x lt) in
              rw (e, z) (h ∙ ap (λ (m : ℕ). slice_index t (first + m)) p)
          | inr e ↦ let z : nat_lt y n ≡ false = ap (λ (m : ℕ). nat_lt m n) (sym p) ∙ e in rw (e, z) refl
        ]
    alike (Add i j) a = both i j (sum_in (slice_index ws i.0)) a
    alike (Subtract i j) a = both i j (difference_in (slice_index ws i.0)) a
    alike (Multiply i j) a = both i j (product_in (slice_index ws i.0)) a
    alike (Divide i j) a = both i j quotient_of a
    alike (Remainder i j) a = both i j remainder_of a
    alike (And i j) a = both i j bit_and a
    alike (Or i j) a = both i j bit_or a
    alike (Xor i j) a = both i j bit_xor a
    alike (Not i) a = one i (complement_in (slice_index ws i.0)) a
    alike (ShiftLeft i j) a = both i j (left_in (slice_index ws i.0)) a
    alike (ShiftRight i j) a = both i j (right_in (slice_index ws i.0)) a
    alike (ShiftSigned i j) a = both i j (signed_right_in (slice_index ws i.0)) a
    alike (Equal i j) a = both i j (λ (x y : ℕ). truth (x == y)) a
    alike (Less i j) a = both i j (λ (x y : ℕ). truth (nat_lt x y)) a
    alike (LessSigned i j) a =
        both i j (λ (x y : ℕ). truth (nat_lt (raised (slice_index ws i.0) x) (raised (slice_index ws i.0) y))) a
    alike (Select i j k) a =
        let rest : AgreeOn (list_at done j.0 ++ list_at done k.0) s t = agree-right (list_at done i.0) (list_at done j.0 ++ list_at done k.0) s t a in
        one i (λ (x : ℕ). if x == 1 then slice_index xs j.0 else slice_index xs k.0)
        (agree-left (list_at done i.0) (list_at done j.0 ++ list_at done k.0) s t a)
        ∙ both j k (λ (x y : ℕ). if slice_index ys i.0 == 1 then x else y) rest
    alike (ZeroExtend w i) a = d i.0 a
    alike (SignExtend w i) a = one i (sign_extended (slice_index ws i.0) w) a
    alike (Truncate w i) a = one i (λ (x : ℕ). x % 2 ^ w) a
    alike (Bit k i) a = one i (bit_of k) a

  more : (done : List (List ℕ)) (named xs ys : List ℕ) (x y k : ℕ) → length xs ≡ length done → length ys ≡ length done
      → (AgreeOn (list_at done k) s t → slice_index xs k ≡ slice_index ys k) → (AgreeOn named s t → x ≡ y)
      → AgreeOn (list_at (done ++ named ∷ []) k) s t → slice_index (xs ++ x ∷ []) k ≡ slice_index (ys ++ y ∷ []) k
  more [] named [] [] x y zero p q f g a = g a
  more [] named [] [] x y (suc k) p q f g a = refl
  more [] named (z ∷ xs) ys x y k p q f g a = absurd (omega (arith, p))
  more [] named [] (z ∷ ys) x y k p q f g a = absurd (omega (arith, q))
  more (m ∷ done) named [] ys x y k p q f g a = absurd (omega (arith, p))
  more (m ∷ done) named (z ∷ xs) [] x y k p q f g a = absurd (omega (arith, q))
  more (m ∷ done) named (z ∷ xs) (v ∷ ys) x y zero p q f g a = f a
  more (m ∷ done) named (z ∷ xs) (v ∷ ys) x y (suc k) p q f g a = more done named xs ys x y k (omega (arith, p)) (omega (arith, q)) f g a

  after : (cells : List ℕ) (done : List (List ℕ)) (ws xs ys : List ℕ) (ts : List Term) → length xs ≡ length done → length ys ≡ length done
      → Decided done xs ys → Decided (named_after done ts) (values_after cells s ws xs ts) (values_after cells t ws ys ts)
  after cells done ws xs ys [] p q d = d
  after cells done ws xs ys (u ∷ ts) p q d =
      let x = value_in s ws xs u in
      let y = value_in t ws ys u in
      let n = named_in done u in
      after cells (done ++ n ∷ []) (ws ++ width_in cells ws u ∷ []) (xs ++ x ∷ []) (ys ++ y ∷ []) ts
      (omega (arith, p, length-append xs (x ∷ []), length-append done (n ∷ [])))
      (omega (arith, q, length-append ys (y ∷ []), length-append done (n ∷ [])))
      (λ k a. more done n xs ys x y k p q (d k) (alike done ws xs ys d u) a)

pub named_cells_decide : NamedCellsDecide
named_cells_decide table t one other a = after one other table.cells [] [] [] [] table.terms refl refl (λ k h. refl) t.0 a
