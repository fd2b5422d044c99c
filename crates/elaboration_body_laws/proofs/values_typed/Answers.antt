use Rattle.elaboration_body_laws.proofs.Values.{value_fits}
use Rattle.elaboration_body_laws.proofs.values_typed.Goals as goal

pub returns : goal.returns
returns c = value_fits
