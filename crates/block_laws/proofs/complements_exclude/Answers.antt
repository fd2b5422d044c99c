use Rattle.block_laws.proofs.Testing as law
use Rattle.block_laws.proofs.complements_exclude.Goals as goal

pub returns : goal.returns
returns c = law.complements_exclude
