use Rattle.code_move_laws.proofs.Whole as law
use Rattle.code_move_laws.proofs.steps_agree.Goals as goal

pub returns : goal.returns
returns c = law.steps
