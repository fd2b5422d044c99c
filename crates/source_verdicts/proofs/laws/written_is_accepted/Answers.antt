use Rattle.source_verdicts.proofs.Accepting as law
use Rattle.source_verdicts.proofs.laws.written_is_accepted.Goals as goal

pub returns : goal.returns
returns c = law.written_is_accepted
