use Rattle.graph_walk_laws.proofs.Walking as law
use Rattle.graph_walk_laws.proofs.walks_are_runs.Goals as goal

pub returns : goal.returns
returns c = law.walks_are_runs
