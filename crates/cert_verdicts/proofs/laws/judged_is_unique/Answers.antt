use Rattle.cert_verdicts.proofs.Unique as law
use Rattle.cert_verdicts.proofs.laws.judged_is_unique.Goals as goal

pub returns : goal.returns
returns c = law.judged_is_unique
