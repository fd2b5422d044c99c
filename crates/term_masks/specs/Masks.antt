-- Formulas of one table as formulas of another that name some cells alone.
use Rattle.std.specs.Prelude.{ℕ, ◌<◌, ◌≡◌, Bool, true, false, List, [], ◌∷◌, length, slice_index, slice_index_or, if◌then◌else◌}
use Rattle.bv_term.specs.declared.term.Term.{Term}
use Rattle.bv_term.specs.declared.term.Term.TheVariants.{Constant, Cell, And, Or, Not, Bit}
use Rattle.bv_term.specs.declared.term.TermId.{TermId}
use Rattle.bv_term.specs.WellFormed.{Table, widths}
use Rattle.bv_term.specs.Values.{value}
use Rattle.formula_diagrams.specs.Writings.{AnyCell, IsPlain}
use Rattle.term_copy.specs.Copies.{number_in}

-- whether a cell is kept
abbrev pub is_kept : List Bool → ℕ → Bool
is_kept kept c = slice_index_or kept c false

abbrev pub IsKept : List Bool → ℕ → Type 0
IsKept kept c = is_kept kept c ≡ true

-- the store with 0 in the cells that are not kept
abbrev pub masked : List Bool → List ℕ → List ℕ
masked [] store = []
masked (b ∷ kept) [] = []
masked (b ∷ kept) (x ∷ store) = (if b then x else 0) ∷ masked kept store

-- a cell if it is kept, else 0 of its width
abbrev pub masked_cell : List Bool → ℕ → ℕ → Term
masked_cell kept w c = if is_kept kept c then Cell c else Constant w 0

-- a term of this width under the new numbers of its operands
abbrev pub masked_in : List Bool → List TermId → ℕ → Term → Term
masked_in kept to w (Constant v x) = Constant v x
masked_in kept to w (Cell c) = masked_cell kept w c
masked_in kept to w (Bit k i) = Bit k (number_in to i)
masked_in kept to w (Not i) = Not (number_in to i)
masked_in kept to w (And i j) = And (number_in to i) (number_in to j)
masked_in kept to w (Or i j) = Or (number_in to i) (number_in to j)
masked_in kept to w _ = Constant w 0

-- so many first terms of a table have terms of another, each as wide as its own; that of a formula has in each store the formula's value in
-- the store with 0 in the cells that are not kept, and names kept cells alone
pub record AreMasked (from into : Table) (kept : List Bool) (to : List TermId) : Type 0 where
  pub there : (i : TermId) → i.0 < length to → (number_in to i).0 < length into.terms
  pub widths_are : (i : TermId) → i.0 < length to → slice_index (widths into) (number_in to i).0 ≡ slice_index (widths from) i.0
  pub values_are : (store : List ℕ) (i : TermId) → i.0 < length to → IsPlain from AnyCell i
      → value into store (number_in to i) ≡ value from (masked kept store) i
  pub plain : (i : TermId) → i.0 < length to → IsPlain from AnyCell i → IsPlain into (IsKept kept) (number_in to i)
