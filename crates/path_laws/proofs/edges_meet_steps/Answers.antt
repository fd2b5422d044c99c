use Rattle.path_laws.proofs.Meeting as law
use Rattle.path_laws.proofs.edges_meet_steps.Goals as goal

pub returns : goal.returns
returns c = law.edges_meet_steps
