-- A program's run to an error goes by its flat code and the graphs of its functions to the graph of the whole, and comes back.
use Rattle.std.specs.Prelude.{take}
use Rattle.inline_laws.proofs.Copies.{inlined_runs_follow}
use Rattle.inline_back_laws.proofs.Copies.{inlined-errors-come-back}
use Rattle.code_start_laws.proofs.Errors.{program-errors-follow}
use Rattle.source_graph_laws.specs.Laws.{InlinedGraphsStand}

pub inlined_graphs_stand : InlinedGraphsStand
inlined_graphs_stand t order p g typed ordered flows follows is = (
  λ turns inputs kind at taken ends. inlined_runs_follow p g (take taken inputs) kind at is (program-errors-follow t order p inputs turns kind at taken typed ordered flows follows ends),
  inlined-errors-come-back t order p g typed ordered flows follows is,
)
