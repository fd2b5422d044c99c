use Rattle.term_laws.proofs.Renaming as law
use Rattle.term_laws.proofs.laws.renamed_means.Goals as goal

pub returns : goal.returns
returns c = law.value
