use Rattle.certificate_laws.proofs.Refusals.{over_is_named}
use Rattle.certificate_laws.proofs.over_is_named.Goals as goal

pub returns : goal.returns
returns c = over_is_named
