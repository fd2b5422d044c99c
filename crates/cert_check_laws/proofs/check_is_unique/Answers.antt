use Rattle.cert_check_laws.proofs.Unique as law
use Rattle.cert_check_laws.proofs.check_is_unique.Goals as goal

pub returns : goal.returns
returns c = law.check_is_unique
