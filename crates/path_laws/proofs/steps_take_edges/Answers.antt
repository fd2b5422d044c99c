use Rattle.path_laws.proofs.Meeting as law
use Rattle.path_laws.proofs.steps_take_edges.Goals as goal

pub returns : goal.returns
returns c = law.steps_take_edges
