use Rattle.code_move_laws.proofs.Trimming as law
use Rattle.code_move_laws.proofs.converting_agrees.Goals as goal

pub returns : goal.returns
returns c = law.converting-agrees
