-- Terms of one bit, by the truth that they stand for in each store, and tables that grew.
use Rattle.std.specs.Prelude.{ℕ, ◌<◌, ◌≡◌, ◌==◌, Bool, List, ◌++◌, length, slice_index}
use Rattle.bv_term.specs.declared.term.TermId.{TermId}
use Rattle.bv_term.specs.declared.term.Term.{Term}
use Rattle.bv_term.specs.Numbers.{truth}
use Rattle.bv_term.specs.WellFormed.{Table, widths}
use Rattle.bv_term.specs.Values.{value}
use Rattle.c_graph.specs.Steps.{IsWhole}

-- a table over more cells, with more terms
abbrev pub Grew : Table → Table → Type 0
Grew old new = ((more : List ℕ) × (new.cells ≡ old.cells ++ more)) × ((more : List Term) × (new.terms ≡ old.terms ++ more))

-- the term is 1 where the truth holds and 0 elsewhere, in each store of the table's widths
abbrev pub IsBit : Table → TermId → (List ℕ → Bool) → Type 0
IsBit table t p = (store : List ℕ) → IsWhole table.cells store → value table store t ≡ truth (p store)

-- the term has this value in each store of the table's widths
abbrev pub Means : Table → TermId → (List ℕ → ℕ) → Type 0
Means table t f = (store : List ℕ) → IsWhole table.cells store → value table store t ≡ f store

-- the cell is 1
abbrev pub is_one : ℕ → List ℕ → Bool
is_one c s = slice_index s c == 1

-- the term of the table has one bit
abbrev pub IsOneWide : Table → TermId → Type 0
IsOneWide table t = (t.0 < length table.terms) × (slice_index (widths table) t.0 ≡ 1)
