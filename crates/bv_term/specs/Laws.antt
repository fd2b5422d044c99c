-- What the calls of a table leave, and the laws of values.
use Rattle.std.specs.Prelude.{ℕ, ◌^◌, ◌<◌, ◌≡◌, ◌⊎◌, List, ◌++◌, length, slice_index, take, Contains}
use Rattle.bv_term.specs.declared.term.TermId.{TermId}
use Rattle.bv_term.specs.declared.term.Term.{Term}
use Rattle.bv_term.specs.WellFormed.{Table, IsTable, with_term, widths}
use Rattle.bv_term.specs.Values.{value, values, IsStore}

-- the table after a term was put: as it was, where an equal term was there, else with the term at its end
abbrev pub IsPut : Table → Table → Term → Type 0
IsPut old new t = (new ≡ old) ⊎ ((new ≡ with_term old t) × (Contains old.terms t → ⊥))

-- the second table is the first with further terms at its end
abbrev pub Extends : Table → Table → Type 0
Extends old new = (new.cells ≡ old.cells) × ((more : List Term) × (new.terms ≡ old.terms ++ more))

-- terms keep their values as a table grows
abbrev pub ValuesStay : Type 0
ValuesStay =
    (old new : Table) (store : List ℕ) (t : TermId) → Extends old new → t.0 < length old.terms
    → value new store t ≡ value old store t

-- the values of a table begin those of one that grew from it
abbrev pub ValuesBegin : Type 0
ValuesBegin =
    (old new : Table) (store : List ℕ) → Extends old new
    → (length (values old store) ≡ length old.terms) × (values old store ≡ take (length (values old store)) (values new store))

-- terms keep their widths as a table grows
abbrev pub WidthsStay : Type 0
WidthsStay =
    (old new : Table) (t : TermId) → Extends old new → t.0 < length old.terms
    → slice_index (widths new) t.0 ≡ slice_index (widths old) t.0

-- in a store, the value of each term of a table is below two to the power of its width
abbrev pub ValuesFit : Type 0
ValuesFit =
    (table : Table) (store : List ℕ) (t : TermId) → IsTable table → IsStore table.cells store → t.0 < length table.terms
    → value table store t < 2 ^ slice_index (widths table) t.0

-- a table has one width and, in each store, one value for each term
abbrev pub OneForEach : Type 0
OneForEach =
    (table : Table) (store : List ℕ)
    → (length (widths table) ≡ length table.terms) × (length (values table store) ≡ length table.terms)
