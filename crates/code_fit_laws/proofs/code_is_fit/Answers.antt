use Rattle.code_fit_laws.proofs.Whole as law
use Rattle.code_fit_laws.proofs.code_is_fit.Goals as goal

pub returns : goal.returns
returns c = law.code_is_fit
