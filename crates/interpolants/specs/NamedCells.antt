-- The cells that the formulas of a path's cuts name.
use Rattle.std.specs.Prelude.{ℕ, ◌<◌, ◌≡◌, Bool, List, length, Some, slice_get}
use Rattle.bv_term.specs.declared.term.TermId.{TermId}
use Rattle.bv_term.specs.WellFormed.{Table}
use Rattle.formula_diagrams.specs.Writings.{IsPlain}
use Rattle.path_query.specs.declared.query.Bundle.{Bundle}
use Rattle.path_query.specs.declared.query.PathQuery.{PathQuery}
use Rattle.term_masks.specs.Masks.{IsKept}

-- the cell is one of a cut's
abbrev pub IsCellOf : List Bundle → ℕ → Type 0
IsCellOf bundles c = (k : ℕ) × ((b : Bundle) × ((slice_get bundles k ≡ Some b) × (b.cell ≡ c)))

-- the cells of a cut are kept
abbrev pub AreKeptCells : List Bool → List Bundle → Type 0
AreKeptCells kept bundles = (k : ℕ) (b : Bundle) → slice_get bundles k ≡ Some b → IsKept kept b.cell

-- of so many first cells of a cut each that is there is kept, and no other is
pub record IsMask (bundles : List Bundle) (n : ℕ) (kept : List Bool) : Type 0 where
  pub all : (k : ℕ) (b : Bundle) → k < n → slice_get bundles k ≡ Some b → b.cell < length kept → IsKept kept b.cell
  pub only : (c : ℕ) → IsKept kept c → IsCellOf bundles c

-- the term is made of constants and of bits of the cells of the cut of this number by `~`, `&` and `o`
abbrev pub IsNamedAt : Table → PathQuery → ℕ → TermId → Type 0
IsNamedAt table q k t = (bundles : List Bundle) → slice_get q.cuts k ≡ Some bundles → IsPlain table (IsCellOf bundles) t

-- so is each of the terms, of the cells of its cut
abbrev pub AreNamed : Table → PathQuery → List TermId → Type 0
AreNamed table q fs = (k : ℕ) (t : TermId) → slice_get fs k ≡ Some t → IsNamedAt table q k t
