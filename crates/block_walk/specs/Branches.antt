-- The second side of a branch.
use Rattle.std.specs.Prelude.{ℕ, Bool, not, List}
use Rattle.bv_term.specs.declared.term.TermId.{TermId}
use Rattle.bv_term.specs.WellFormed.{Table}
use Rattle.c_graph.specs.Shape.{Flow}
use Rattle.truth_terms.specs.Truths.{IsBit}
use Rattle.block_steps.specs.Cursors.{AreSides, SideAt}
use Rattle.block_steps.specs.declared.cursor.Cursor.{Cursor}

-- the second term is the complement of the first
abbrev pub IsOther : Table → TermId → TermId → Type 0
IsOther table t u = (p : List ℕ → Bool) → IsBit table t p → IsBit table u (λ s. not (p s))

-- the place is behind the test of a side, which is the complement of this term, and no edges lead from the node but these two places'
abbrev pub IsSecond : Flow → ℕ → TermId → Cursor → Cursor → Type 0
IsSecond h v t one other = (u : TermId) × (SideAt h other v u × IsOther h.terms t u × AreSides h v one.edge_at other.edge_at)
