-- What the names of terms give is named by them.
use Rattle.std.proofs.Common.{◌≡◌, ◌∙◌, ℕ, ◌+◌, ◌<◌, ◌≤◌, ◌⊎◌, inl, inr, List, [], ◌∷◌, ◌++◌, length, Some, slice_get, zero, suc, refl, sym, ap, subst, arith, append_assoc}
use Rattle.std.specs.Prelude.{Contains}
use Rattle.bv_term.specs.declared.term.Term.{Term}
use Rattle.bv_term.specs.declared.term.Term.TheVariants.{Constant, Cell, Element, Add, Subtract, Multiply, Divide, Remainder, And, Or, Xor, Not, ShiftLeft, ShiftRight, ShiftSigned, Equal, Less, LessSigned, Select, ZeroExtend, SignExtend, Truncate, Bit}
use Rattle.bv_term.specs.declared.term.TermId.{TermId}
use Rattle.bv_term.specs.WellFormed.{Table}
use Rattle.obligation_laws.proofs.Alike.{Has}
use Rattle.needed_cells.specs.Reads.{cells_from, list_at, named_after, named_in, names}
use Rattle.chain_laws.proofs.Names.{has-either}
use Rattle.needed_cells.specs.Readings.{Names, Names.is_cell, Names.is_element, Names.by_operand, operands_of}

pub within : (first n c : ℕ) → Has (cells_from first n) c → (first ≤ c) × (c < first + n)
within first zero c h = absurd h
within first (suc n) c (inl e) = (omega (arith, e), omega (arith, e))
within first (suc n) c (inr h) = let (a, b) = within (first + 1) n c h in (omega (arith, a), omega (arith, b))

-- the lists give for each number cells that its term names
abbrev Sound : Table → List (List ℕ) → Type 0
Sound table done = (k c : ℕ) → Has (list_at done k) c → Names table c k

module _ (table : Table) (done : List (List ℕ)) (sound : Sound table done) (t c : ℕ) (u : Term) (g : slice_get table.terms t ≡ Some u) where
  operand : (k : ℕ) → Contains (operands_of u) k → Has (list_at done k) c → Names table c t
  operand k there h = by_operand u k g there (sound k c h)

  two : (xs : List ℕ) (i j : ℕ) → operands_of u ≡ i ∷ j ∷ xs → Has (list_at done i ++ list_at done j) c → Names table c t
  two xs i j e h = elim (has-either (list_at done i) (list_at done j) c h) [
    | inl a ↦ operand i (subst (λ (ns : List ℕ). Contains ns i) (sym e) (0, omega arith, refl)) a
    | inr b ↦ operand j (subst (λ (ns : List ℕ). Contains ns j) (sym e) (1, omega arith, refl)) b
  ]

  three : (i j k : ℕ) → operands_of u ≡ i ∷ j ∷ k ∷ [] → Has (list_at done i ++ (list_at done j ++ list_at done k)) c → Names table c t
  three i j k e h = elim (has-either (list_at done i) (list_at done j ++ list_at done k) c h) [
    | inl a ↦ operand i (subst (λ (ns : List ℕ). Contains ns i) (sym e) (0, omega arith, refl)) a
    | inr r ↦ elim (has-either (list_at done j) (list_at done k) c r) [
      | inl a ↦ operand j (subst (λ (ns : List ℕ). Contains ns j) (sym e) (1, omega arith, refl)) a
      | inr b ↦ operand k (subst (λ (ns : List ℕ). Contains ns k) (sym e) (2, omega arith, refl)) b
    ]
  ]

module _ (table : Table) (done : List (List ℕ)) (sound : Sound table done) (t c : ℕ) where
  named : (u : Term) → slice_get table.terms t ≡ Some u → Has (named_in done u) c → Names table c t
  named (Constant w v) g h = absurd h
  named (Cell d) g (inl e) = is_cell (g ∙ ap (λ (k : ℕ). Some (Cell k)) (sym e))
  named (Cell d) g (inr h) = absurd h
  named (Element f n x) g h = elim (has-either (cells_from f n) (list_at done x.0) c h) [
    | inl a ↦ (let (low, high) = within f n c a in is_element f n x g low high)
    | inr b ↦ operand table done sound t c (Element f n x) g x.0 (0, omega arith, refl) b
  ]
  named (Add x y) g h = two table done sound t c (Add x y) g [] x.0 y.0 refl h
  named (Subtract x y) g h = two table done sound t c (Subtract x y) g [] x.0 y.0 refl h
  named (Multiply x y) g h = two table done sound t c (Multiply x y) g [] x.0 y.0 refl h
  named (Divide x y) g h = two table done sound t c (Divide x y) g [] x.0 y.0 refl h
  named (Remainder x y) g h = two table done sound t c (Remainder x y) g [] x.0 y.0 refl h
  named (And x y) g h = two table done sound t c (And x y) g [] x.0 y.0 refl h
  named (Or x y) g h = two table done sound t c (Or x y) g [] x.0 y.0 refl h
  named (Xor x y) g h = two table done sound t c (Xor x y) g [] x.0 y.0 refl h
  named (Not x) g h = operand table done sound t c (Not x) g x.0 (0, omega arith, refl) h
  named (ShiftLeft x y) g h = two table done sound t c (ShiftLeft x y) g [] x.0 y.0 refl h
  named (ShiftRight x y) g h = two table done sound t c (ShiftRight x y) g [] x.0 y.0 refl h
  named (ShiftSigned x y) g h = two table done sound t c (ShiftSigned x y) g [] x.0 y.0 refl h
  named (Equal x y) g h = two table done sound t c (Equal x y) g [] x.0 y.0 refl h
  named (Less x y) g h = two table done sound t c (Less x y) g [] x.0 y.0 refl h
  named (LessSigned x y) g h = two table done sound t c (LessSigned x y) g [] x.0 y.0 refl h
  named (Select x y z) g h = three table done sound t c (Select x y z) g x.0 y.0 z.0 refl h
  named (ZeroExtend w x) g h = operand table done sound t c (ZeroExtend w x) g x.0 (0, omega arith, refl) h
  named (SignExtend w x) g h = operand table done sound t c (SignExtend w x) g x.0 (0, omega arith, refl) h
  named (Truncate w x) g h = operand table done sound t c (Truncate w x) g x.0 (0, omega arith, refl) h
  named (Bit k x) g h = operand table done sound t c (Bit k x) g x.0 (0, omega arith, refl) h

-- one list more
list-more : (xs : List (List ℕ)) (x : List ℕ) (k c : ℕ) → Has (list_at (xs ++ x ∷ []) k) c → Has (list_at xs k) c ⊎ ((k ≡ length xs) × Has x c)
list-more [] x zero c h = inr (refl, h)
list-more [] x (suc k) c h = absurd h
list-more (y ∷ xs) x zero c h = inl h
list-more (y ∷ xs) x (suc k) c h = elim (list-more xs x k c h) [ inl a ↦ inl a | inr b ↦ inr (ap suc b.0, b.1) ]

get-behind : (xs : List Term) (t : Term) (ys : List Term) → slice_get (xs ++ t ∷ ys) (length xs) ≡ Some t
get-behind [] t ys = refl
get-behind (x ∷ xs) t ys = get-behind xs t ys

length-more : (xs : List (List ℕ)) (x : List ℕ) (ts : List Term) (t : Term) → length xs ≡ length ts → length (xs ++ x ∷ []) ≡ length (ts ++ t ∷ [])
length-more [] x [] t e = refl
length-more [] x (s ∷ ts) t e = absurd cc
length-more (y ∷ xs) x [] t e = absurd cc
length-more (y ∷ xs) x (s ∷ ts) t e = ap suc (length-more xs x ts t (omega (arith, e)))

module _ (table : Table) where
  sound-all : (done : List (List ℕ)) (front ts : List Term) → table.terms ≡ front ++ ts → length done ≡ length front → Sound table done
      → Sound table (named_after done ts)
  sound-all done front [] are long sound = sound
  sound-all done front (t ∷ ts) are long sound =
      sound-all (done ++ named_in done t ∷ []) (front ++ t ∷ []) ts (are ∙ sym (append_assoc front (t ∷ []) ts)) (length-more done (named_in done t) front t long) more
    where
      here : slice_get table.terms (length done) ≡ Some t
      here = ap (λ (xs : List Term). slice_get xs (length done)) are ∙ ap (slice_get (front ++ t ∷ ts)) long ∙ get-behind front t ts

      more : Sound table (done ++ named_in done t ∷ [])
      more k c h = elim (list-more done (named_in done t) k c h) [
        | inl a ↦ sound k c a
        | inr b ↦ subst (Names table c) (sym b.0) (named table done sound (length done) c t here b.1)
      ]

  pub names-are : (t : TermId) (c : ℕ) → Has (names table t) c → Names table c t.0
  names-are t c h = sound-all [] [] table.terms refl refl (λ k d none. absurd none) t.0 c h
