use Rattle.path_laws.proofs.Running as law
use Rattle.path_laws.proofs.questions_make_runs.Goals as goal

pub returns : goal.returns
returns c = law.questions_make_runs
