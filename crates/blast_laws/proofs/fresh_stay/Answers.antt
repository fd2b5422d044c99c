use Rattle.blast_laws.proofs.Drawing as law
use Rattle.blast_laws.proofs.fresh_stay.Goals as goal

pub returns : goal.returns
returns c = law.fresh_stay
