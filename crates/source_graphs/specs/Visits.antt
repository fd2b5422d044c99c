-- Visits of a program's loops by the graph of its blocks.
use Rattle.c_typed.specs.Tree.{Program}
use Rattle.c_graph.specs.Shape.{Flow}
use Rattle.code_moves.specs.Setting.{Setting}
use Rattle.program_graphs.specs.Standing.{ErrorsFollow}
use Rattle.program_visits.specs.Visiting.{VisitsFollow}
use Rattle.join_laws.specs.Visits.{KeepsVisits}
use Rattle.block_join.specs.Joined.{Stays}

-- A graph was made of a whole one, which visits the program's loops and has its errors. It has the whole one's loops, at the same nodes, and
-- its cells. Each run of the whole one to a loop's node has a run of this one, with the same values, whose store is the same in each cell
-- that is needed from there on.
pub record VisitsInBlocks (s : Setting) (p : Program) (h : Flow) : Type 0 where
  pub whole : Flow
  pub visits : VisitsFollow s p whole
  pub errors : ErrorsFollow p whole
  pub stays : Stays whole h
  pub keeps : KeepsVisits whole h
