use Rattle.code_back_laws.proofs.Whole as law
use Rattle.code_back_laws.proofs.typed_errors_come_back.Goals as goal

pub returns : goal.returns
returns c = law.typed-errors-come-back
