-- Terms that are copied from one table into another.
use Rattle.std.specs.Prelude.{ℕ, ◌<◌, ◌≤◌, ◌≡◌, Bool, true, false, List, length, Some, slice_get, slice_index, slice_index_or, slice_set}
use Rattle.bv_term.specs.declared.term.TermId.{TermId}
use Rattle.bv_term.specs.declared.term.Term.{Term}
use Rattle.bv_term.specs.declared.term.Term.TheVariants.{Constant, Cell, Element, Add, Subtract, Multiply, Divide, Remainder, And, Or, Xor, Not, ShiftLeft, ShiftRight, ShiftSigned, Equal, Less, LessSigned, Select, ZeroExtend, SignExtend, Truncate, Bit}
use Rattle.bv_term.specs.WellFormed.{Table, widths}
use Rattle.bv_term.specs.Values.{value, values}
use Rattle.invariant_map.specs.declared.operands.Uses.{Uses}
use Rattle.invariant_map.specs.declared.operands.Uses.TheVariants.{Nothing, One, Two, Three}

-- the operands of a term
abbrev pub uses_of : Term → Uses
uses_of (Constant w v) = Nothing
uses_of (Cell c) = Nothing
uses_of (Element first n i) = One i.0
uses_of (Add i j) = Two i.0 j.0
uses_of (Subtract i j) = Two i.0 j.0
uses_of (Multiply i j) = Two i.0 j.0
uses_of (Divide i j) = Two i.0 j.0
uses_of (Remainder i j) = Two i.0 j.0
uses_of (And i j) = Two i.0 j.0
uses_of (Or i j) = Two i.0 j.0
uses_of (Xor i j) = Two i.0 j.0
uses_of (Not i) = One i.0
uses_of (ShiftLeft i j) = Two i.0 j.0
uses_of (ShiftRight i j) = Two i.0 j.0
uses_of (ShiftSigned i j) = Two i.0 j.0
uses_of (Equal i j) = Two i.0 j.0
uses_of (Less i j) = Two i.0 j.0
uses_of (LessSigned i j) = Two i.0 j.0
uses_of (Select i j k) = Three i.0 j.0 k.0
uses_of (ZeroExtend w i) = One i.0
uses_of (SignExtend w i) = One i.0
uses_of (Truncate w i) = One i.0
uses_of (Bit k i) = One i.0

-- a fact of each of them
abbrev pub EachUse : (ℕ → Type 0) → Uses → Type 0
EachUse P Nothing = Unit {0}
EachUse P (One a) = P a
EachUse P (Two a b) = P a × P b
EachUse P (Three a b c) = P a × P b × P c

abbrev pub Each : (ℕ → Type 0) → Term → Type 0
Each P t = EachUse P (uses_of t)

-- where a term stands
abbrev pub place_of : List TermId → TermId → TermId
place_of places t = slice_index_or places t.0 (record { 0 = 0 })

-- a term over the places of its operands
abbrev pub moved : List TermId → Term → Term
moved ps (Constant w v) = Constant w v
moved ps (Cell c) = Cell c
moved ps (Element first n i) = Element first n (place_of ps i)
moved ps (Add i j) = Add (place_of ps i) (place_of ps j)
moved ps (Subtract i j) = Subtract (place_of ps i) (place_of ps j)
moved ps (Multiply i j) = Multiply (place_of ps i) (place_of ps j)
moved ps (Divide i j) = Divide (place_of ps i) (place_of ps j)
moved ps (Remainder i j) = Remainder (place_of ps i) (place_of ps j)
moved ps (And i j) = And (place_of ps i) (place_of ps j)
moved ps (Or i j) = Or (place_of ps i) (place_of ps j)
moved ps (Xor i j) = Xor (place_of ps i) (place_of ps j)
moved ps (Not i) = Not (place_of ps i)
moved ps (ShiftLeft i j) = ShiftLeft (place_of ps i) (place_of ps j)
moved ps (ShiftRight i j) = ShiftRight (place_of ps i) (place_of ps j)
moved ps (ShiftSigned i j) = ShiftSigned (place_of ps i) (place_of ps j)
moved ps (Equal i j) = Equal (place_of ps i) (place_of ps j)
moved ps (Less i j) = Less (place_of ps i) (place_of ps j)
moved ps (LessSigned i j) = LessSigned (place_of ps i) (place_of ps j)
moved ps (Select i j k) = Select (place_of ps i) (place_of ps j) (place_of ps k)
moved ps (ZeroExtend w i) = ZeroExtend w (place_of ps i)
moved ps (SignExtend w i) = SignExtend w (place_of ps i)
moved ps (Truncate w i) = Truncate w (place_of ps i)
moved ps (Bit k i) = Bit k (place_of ps i)

-- whether a number is marked
abbrev pub is_marked : List Bool → ℕ → Bool
is_marked marks n = slice_index_or marks n false

-- the marks with those of operands
abbrev pub uses_marked : List Bool → Uses → List Bool
uses_marked m Nothing = m
uses_marked m (One a) = slice_set m a true
uses_marked m (Two a b) = slice_set (slice_set m a true) b true
uses_marked m (Three a b c) = slice_set (slice_set (slice_set m a true) b true) c true

-- what was marked stays marked
pub record KeepsMarks (old new : List Bool) : Type 0 where
  pub sized : length new ≡ length old
  pub kept : (k : ℕ) → is_marked old k ≡ true → is_marked new k ≡ true

-- the operands of each marked term, from number n on, are marked
abbrev pub IsClosed : List Term → List Bool → ℕ → Type 0
IsClosed ts marks n =
    (k : ℕ) (t : Term) → n ≤ k → slice_get ts k ≡ Some t → is_marked marks k ≡ true → Each (λ j. is_marked marks j ≡ true) t

-- a term of a table that has the width of another table's term and, in each store, its value
pub record IsCopy (old new : Table) (k : ℕ) (t : TermId) : Type 0 where
  pub there : t.0 < length new.terms
  pub width : slice_index (widths new) t.0 ≡ slice_index (widths old) k
  pub told : (store : List ℕ) → value new store t ≡ slice_index (values old store) k

-- each marked term that has a place is copied there
abbrev pub AreCopies : Table → Table → List Bool → List TermId → Type 0
AreCopies old new marks places =
    (k : ℕ) (d : TermId) → k < length places → is_marked marks k ≡ true → IsCopy old new k (slice_index_or places k d)

-- the operands of a term are copied
abbrev pub AreOperandsCopied : Table → Table → List TermId → ℕ → Type 0
AreOperandsCopied old new places k =
    (t : Term) → slice_get old.terms k ≡ Some t → Each (λ j. IsCopy old new j (slice_index_or places j (record { 0 = 0 }))) t
