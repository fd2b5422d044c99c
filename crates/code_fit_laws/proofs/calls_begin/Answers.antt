use Rattle.code_fit_laws.proofs.Whole as law
use Rattle.code_fit_laws.proofs.calls_begin.Goals as goal

pub returns : goal.returns
returns c = law.calls_begin
