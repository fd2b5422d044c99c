use Rattle.edge_count_laws.proofs.Branching.{graphs-branch-all}
use Rattle.edge_count_laws.proofs.graphs_branch.Goals as goal

pub returns : goal.returns
returns c = graphs-branch-all
