use Rattle.graph_walk_laws.proofs.Walking as law
use Rattle.graph_walk_laws.proofs.runs_are_walks.Goals as goal

pub returns : goal.returns
returns c = law.runs_are_walks
