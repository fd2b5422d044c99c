use Rattle.join_laws.proofs.Visits as law
use Rattle.join_laws.proofs.chains_keep_loops.Goals as goal

pub returns : goal.returns
returns c = law.chains_keep_loops
