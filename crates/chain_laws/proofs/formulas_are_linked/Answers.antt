use Rattle.chain_laws.proofs.Linking as law
use Rattle.chain_laws.proofs.formulas_are_linked.Goals as goal

pub returns : goal.returns
returns c = law.formulas_are_linked
