use Rattle.blast_laws.proofs.Bounding as law
use Rattle.blast_laws.proofs.terms_small.Goals as goal

pub returns : goal.returns
returns c = law.terms_small
