use Rattle.chain_laws.proofs.Descending as law
use Rattle.chain_laws.proofs.formulas_make_links.Goals as goal

pub returns : goal.returns
returns c = law.formulas_make_links
