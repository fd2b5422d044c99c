use Rattle.code_fit_laws.proofs.Whole as law
use Rattle.code_fit_laws.proofs.ranges_are_of.Goals as goal

pub returns : goal.returns
returns c = law.ranges_are_of
