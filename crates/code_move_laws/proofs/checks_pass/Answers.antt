use Rattle.code_move_laws.proofs.Checking as law
use Rattle.code_move_laws.proofs.checks_pass.Goals as goal

pub returns : goal.returns
returns c = law.checks-pass
