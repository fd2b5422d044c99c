-- The terms below a term, apart from their table.
use Rattle.std.specs.Prelude.{ℕ, ◌≡◌, List}
use Rattle.bv_term.specs.declared.term.TermId.{TermId}
use Rattle.bv_term.specs.declared.term.Term.{Term}
use Rattle.bv_term.specs.WellFormed.{Table, IsTable, widths}
use Rattle.bv_term.specs.Values.{IsStore, value}

-- terms, each with its operands before it, their widths, and the number of the one that is meant
pub record Cone : Type 0 where
  pub terms : List Term
  pub widths : List ℕ
  pub top : TermId

-- the terms as a table over the cells of another
abbrev pub over : Table → List Term → Table
over table terms = record { cells = table.cells; terms = terms }

-- the cone's terms are well formed over the table's cells, and in each store the one that is meant has the value of the
-- table's term
pub record IsConeOf (table : Table) (term : TermId) (cone : Cone) : Type 0 where
  pub made : IsTable (over table cone.terms)
  pub widths : cone.widths ≡ widths (over table cone.terms)
  pub value : (store : List ℕ) → value (over table cone.terms) store cone.top ≡ value table store term

-- the store is one of the cells of a table whose term's cone this is
abbrev pub MayRead : Cone → List ℕ → Type 0
MayRead cone store = (table : Table) × (term : TermId) × IsConeOf table term cone × IsStore table.cells store
