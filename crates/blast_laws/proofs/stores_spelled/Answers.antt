use Rattle.blast_laws.proofs.Runs as law
use Rattle.blast_laws.proofs.stores_spelled.Goals as goal

pub returns : goal.returns
returns c = law.stores_spelled
