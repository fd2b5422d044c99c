use Rattle.elaboration_fit_laws.proofs.Fitting.{expressions_fit_is}
use Rattle.elaboration_fit_laws.proofs.expressions_fit.Goals as goal

pub returns : goal.returns
returns c = expressions_fit_is
