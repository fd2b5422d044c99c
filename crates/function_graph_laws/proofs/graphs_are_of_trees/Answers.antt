use Rattle.cfg_build.proofs.Alike as law
use Rattle.function_graph_laws.proofs.graphs_are_of_trees.Goals as goal

pub returns : goal.returns
returns c = law.graphs_are_of_trees
