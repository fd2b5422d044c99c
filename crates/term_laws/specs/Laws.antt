-- The width and the value of a term, by those of its operands.
use Rattle.std.specs.Prelude.{ℕ, ◌<◌, ◌≡◌, List, length, slice_index, slice_get, Some}
use Rattle.bv_term.specs.declared.term.TermId.{TermId}
use Rattle.bv_term.specs.declared.term.Term.{Term}
use Rattle.bv_term.specs.WellFormed.{Table, IsTable, Fits, FitsTable, width_in, widths}
use Rattle.bv_term.specs.Values.{value, values, value_in}
use Rattle.term_laws.specs.Operands.{Follows, OnOperands, renamed}

-- the term of a number: it is well formed, its operands have lower numbers, and its width and its value in a store are
-- the defined functions of theirs
pub record IsMade (table : Table) (store : List ℕ) (t : TermId) (u : Term) : Type 0 where
  pub there : t.0 < length table.terms
  pub fits : FitsTable table u
  pub before : OnOperands (λ i. i.0 < t.0) u
  pub width : slice_index (widths table) t.0 ≡ width_in table.cells (widths table) u
  pub value : value table store t ≡ value_in store (widths table) (values table store) u

-- each term of a table is made of its operands
abbrev pub TermsAreMade : Type 0
TermsAreMade =
    (table : Table) (store : List ℕ) (t : TermId) (u : Term) → IsTable table → slice_get table.terms t.0 ≡ Some u
    → IsMade table store t u

-- a term whose operands are others of the same widths is as well formed, and as wide
abbrev pub RenamedFits : Type 0
RenamedFits =
    (f : TermId → TermId) (cells old new : List ℕ) (u : Term) → OnOperands (Follows f old new) u → Fits cells old u
    → Fits cells new (renamed f u) × (width_in cells new (renamed f u) ≡ width_in cells old u)

-- a term whose operands are others of the same widths and values has the same value
abbrev pub RenamedMeans : Type 0
RenamedMeans =
    (f : TermId → TermId) (store old new past now : List ℕ) (u : Term) → OnOperands (Follows f old new) u
    → OnOperands (λ i. slice_index now (f i).0 ≡ slice_index past i.0) u → value_in store new now (renamed f u) ≡ value_in store old past u
