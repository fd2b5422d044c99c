use Rattle.code_back_laws.proofs.Whole as law
use Rattle.code_back_laws.proofs.flat_errors_come_back.Goals as goal

pub returns : goal.returns
returns c = law.flat-errors-come-back
