use Rattle.cert_verdicts.proofs.Unique as law
use Rattle.cert_verdicts.proofs.laws.certificate_is_accepted.Goals as goal

pub returns : goal.returns
returns c = law.certificate_is_accepted
