use Rattle.elaboration_fit_laws.proofs.Knowing.{known_hold_is}
use Rattle.elaboration_fit_laws.proofs.known_hold.Goals as goal

pub returns : goal.returns
returns c = known_hold_is
