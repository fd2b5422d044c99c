-- A path's steps before their clauses are made, and its question as far as it was made.
use Rattle.std.specs.Prelude.{ℕ, ◌<◌, ◌≡◌, All, List, [], ◌∷◌, length, suc}
use Rattle.prop.specs.declared.Lit.{Lit}
use Rattle.bv_term.specs.WellFormed.{Table}
use Rattle.bit_blast.specs.Emission.{cell_at}
use Rattle.bit_blast.specs.Held.{IsOver}
use Rattle.c_graph.specs.Shape.{Flow}
use Rattle.path_query.specs.declared.query.Bundle.{Bundle}
use Rattle.path_query.specs.Facts.{IsBundle, RisingTo}
use Rattle.path_formula.specs.declared.path.Draft.{Draft}
use Rattle.path_formula.specs.declared.path.Step.{Step}

-- each of these cells is there
abbrev pub AreThere : List ℕ → List ℕ → Type 0
AreThere widths cells = All (λ c. c < length widths) cells

-- cells with the literals that they hold
abbrev pub bundles_of : List (List Lit) → List ℕ → List Bundle
bundles_of held [] = []
bundles_of held (c ∷ cs) = record { cell = c; bits = cell_at held c } ∷ bundles_of held cs

-- the cells that are needed behind the step are there
abbrev pub IsStep : Flow → Step → Type 0
IsStep g s = AreThere g.terms.cells s.behind.items

-- what a question keeps while its steps are added
pub record IsDraft (table : Table) (d : Draft) : Type 0 where
  pub over : IsOver table d.bits
  pub rising : RisingTo 0 d.starts.items (length d.clauses)
  pub cuts : length d.cuts.items ≡ suc (length d.starts.items)
  pub bundles : All (All (IsBundle table.cells)) d.cuts.items
  pub draws : All (IsBundle table.cells) d.draws.items
