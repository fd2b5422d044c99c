use Rattle.path_laws.proofs.Stepping as law
use Rattle.path_laws.proofs.questions_are_steps.Goals as goal

pub returns : goal.returns
returns c = law.questions_are_steps
