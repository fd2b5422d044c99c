use Rattle.cert_check_laws.proofs.Unique as law
use Rattle.cert_check_laws.proofs.accepted_is_not_refused.Goals as goal

pub returns : goal.returns
returns c = law.accepted_is_not_refused
