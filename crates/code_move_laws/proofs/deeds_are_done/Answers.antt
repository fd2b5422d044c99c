use Rattle.code_move_laws.proofs.Operating as law
use Rattle.code_move_laws.proofs.deeds_are_done.Goals as goal

pub returns : goal.returns
returns c = law.deeds-are-done
