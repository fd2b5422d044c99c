use Rattle.term_laws.proofs.Renaming as law
use Rattle.term_laws.proofs.laws.renamed_fits.Goals as goal

pub returns : goal.returns
returns c = λ f cells old new u p h. (law.fits f cells old new u p h, law.width f cells old new u p)
