use Rattle.source_graph_laws.proofs.Joined as law
use Rattle.source_graph_laws.proofs.joined_graphs_stand.Goals as goal

pub returns : goal.returns
returns c = law.joined_graphs_stand
