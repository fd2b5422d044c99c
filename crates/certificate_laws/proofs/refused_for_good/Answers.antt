use Rattle.certificate_laws.proofs.ReadBack.{refused_for_good}
use Rattle.certificate_laws.proofs.refused_for_good.Goals as goal

pub returns : goal.returns
returns c = refused_for_good
