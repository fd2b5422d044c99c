use Rattle.code_move_laws.proofs.Laying as law
use Rattle.code_move_laws.proofs.code_is_laid.Goals as goal

pub returns : goal.returns
returns c = law.laid
