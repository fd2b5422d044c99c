use Rattle.elaboration_fit_laws.proofs.Bodies.{sources_fit_is}
use Rattle.elaboration_fit_laws.proofs.sources_fit.Goals as goal

pub returns : goal.returns
returns c = sources_fit_is
