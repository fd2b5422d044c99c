use Rattle.blast_laws.proofs.Bounding as law
use Rattle.blast_laws.proofs.stores_small.Goals as goal

pub returns : goal.returns
returns c = law.stores_small
