-- What makes one of two tests hold.
use Rattle.bv_term.specs.declared.term.TermId.{TermId}
use Rattle.bv_term.specs.WellFormed.{Table, IsTable}
use Rattle.graph_walk_laws.specs.Walks.{AreComplements}
use Rattle.block_edges.specs.Exact.{Either}

-- of a term of width 1 and its complement one is 1 in each whole store
abbrev pub ComplementsCover : Type 0
ComplementsCover = (table : Table) (t u : TermId) → IsTable table → AreComplements table t u → Either table t u × Either table u t
