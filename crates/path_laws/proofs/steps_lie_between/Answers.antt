use Rattle.path_laws.proofs.Sharing as law
use Rattle.path_laws.proofs.steps_lie_between.Goals as goal

pub returns : goal.returns
returns c = law.steps_lie_between
