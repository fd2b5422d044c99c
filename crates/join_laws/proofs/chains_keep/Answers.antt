use Rattle.join_laws.proofs.Errors as law
use Rattle.join_laws.proofs.chains_keep.Goals as goal

pub returns : goal.returns
returns c = law.chains_keep
