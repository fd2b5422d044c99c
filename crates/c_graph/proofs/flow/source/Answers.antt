use Rattle.c_graph.proofs.Chaining.{source_at}
use Rattle.c_graph.proofs.flow.source.Goals as goal

pub returns : goal.returns
returns c = source_at _ _ _ c.requires
