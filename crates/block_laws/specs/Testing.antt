-- What tests of a plan tell.
use Rattle.std.specs.Prelude.{length}
use Rattle.bv_term.specs.declared.term.TermId.{TermId}
use Rattle.bv_term.specs.WellFormed.{Table, IsTable}
use Rattle.graph_walk_laws.specs.Walks.{AreComplements}
use Rattle.block_rule.specs.Plans.{Plan, Exclude}
use Rattle.block_rule.specs.Tests.{AreReads}
use Rattle.block_rule.specs.Blocked.{ReadsAll}

-- where each term is said to read its own cells and what its operands are said to read, it has one value in stores that agree on these
abbrev pub ReadsTell : Type 0
ReadsTell = (table : Table) (plan : Plan) → IsTable table → AreReads table plan → ReadsAll table (length table.cells) plan

-- a term of width 1 and its complement exclude each other
abbrev pub ComplementsExclude : Type 0
ComplementsExclude = (table : Table) (t u : TermId) → IsTable table → AreComplements table t u → Exclude table t u × Exclude table u t
