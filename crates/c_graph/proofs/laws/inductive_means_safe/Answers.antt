use Rattle.c_graph.proofs.Keeping as law
use Rattle.c_graph.proofs.laws.inductive_means_safe.Goals as goal

pub returns : goal.returns
returns c = law.inductive_means_safe
