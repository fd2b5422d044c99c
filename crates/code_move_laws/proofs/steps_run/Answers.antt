use Rattle.code_move_laws.proofs.Following as law
use Rattle.code_move_laws.proofs.steps_run.Goals as goal

pub returns : goal.returns
returns c = law.steps-run
