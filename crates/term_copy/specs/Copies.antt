-- Terms of one table as terms of another.
use Rattle.std.specs.Prelude.{ℕ, ◌<◌, ◌≡◌, List, length, Some, slice_get, slice_index, slice_index_or}
use Rattle.bv_term.specs.declared.term.Term.{Term}
use Rattle.bv_term.specs.declared.term.TermId.{TermId}
use Rattle.bv_term.specs.WellFormed.{Table, widths}
use Rattle.bv_term.specs.Values.{value}
use Rattle.term_laws.specs.Operands.{renamed}

-- the new number of a term, 0 where it has none
abbrev pub number_in : List TermId → TermId → TermId
number_in to i = slice_index_or to i.0 (record { 0 = 0 })

-- so many first terms of a table have terms of another, each the same operation on the new numbers of its operands, as wide as its own and
-- in each store of the same value
pub record AreCopies (from into : Table) (to : List TermId) : Type 0 where
  pub there : (i : TermId) → i.0 < length to → (number_in to i).0 < length into.terms
  pub widths : (i : TermId) → i.0 < length to → slice_index (widths into) (number_in to i).0 ≡ slice_index (widths from) i.0
  pub values : (store : List ℕ) (i : TermId) → i.0 < length to → value into store (number_in to i) ≡ value from store i
  pub terms : (i : TermId) (t : Term) → i.0 < length to → slice_get from.terms i.0 ≡ Some t
      → slice_get into.terms (number_in to i).0 ≡ Some (renamed (number_in to) t)
