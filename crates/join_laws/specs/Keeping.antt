-- Errors that are met in a graph, and in the graphs that are made of it.
use Rattle.std.specs.Prelude.{ℕ, ℤ, List}
use Rattle.lv_base.specs.declared.fault.ErrorKind.{ErrorKind}
use Rattle.c_graph.specs.declared.graph.Edge.{Edge}
use Rattle.c_graph.specs.Shape.{Flow, IsFlow}
use Rattle.program_graphs.specs.Standing.{MeetsError}
use Rattle.block_rule.specs.Plans.{Plan}
use Rattle.block_rule.specs.Blocked.{IsBlocked}
use Rattle.edge_chains.specs.Joining.{IsJoined}
use Rattle.edge_chain_laws.specs.Keeping.{with_edges}

-- each error that a run of the first graph meets, a run of the second meets, and draws the same values
abbrev pub KeepsErrors : Flow → Flow → Type 0
KeepsErrors g h = (draws : List ℤ) (kind : ErrorKind) (at : ℕ) → MeetsError g draws kind at → MeetsError h draws kind at

abbrev pub BlocksKeep : Type 0
BlocksKeep = (g h : Flow) (plan : Plan) → IsFlow g → IsFlow h → IsBlocked g h plan → KeepsErrors g h

abbrev pub ChainsKeep : Type 0
ChainsKeep = (g : Flow) (edges : List Edge) → IsJoined g.nodes g.loops g.entry g.edges edges → KeepsErrors g (with_edges g edges)
