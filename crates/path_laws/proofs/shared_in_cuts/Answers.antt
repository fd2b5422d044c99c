use Rattle.path_laws.proofs.Sharing as law
use Rattle.path_laws.proofs.shared_in_cuts.Goals as goal

pub returns : goal.returns
returns c = law.shared_in_cuts
