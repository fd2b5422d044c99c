use Rattle.code_fit_laws.proofs.Whole as law
use Rattle.code_fit_laws.proofs.code_keeps.Goals as goal

pub returns : goal.returns
returns c = law.code_keeps
