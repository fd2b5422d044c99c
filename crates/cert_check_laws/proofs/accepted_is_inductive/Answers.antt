use Rattle.cert_check_laws.proofs.Accepted as law
use Rattle.cert_check_laws.proofs.accepted_is_inductive.Goals as goal

pub returns : goal.returns
returns c = law.accepted_is_inductive
