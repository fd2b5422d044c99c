use Rattle.blast_laws.proofs.Drawing as law
use Rattle.blast_laws.proofs.any_store_and_draws.Goals as goal

pub returns : goal.returns
returns c = law.any_store_and_draws
