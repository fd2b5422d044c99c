use Rattle.source_graph_laws.proofs.Inlined as law
use Rattle.source_graph_laws.proofs.inlined_graphs_stand.Goals as goal

pub returns : goal.returns
returns c = law.inlined_graphs_stand
