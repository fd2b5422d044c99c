use Rattle.code_back_laws.proofs.Anywhere as law
use Rattle.code_back_laws.proofs.stores_open.Goals as goal

pub returns : goal.returns
returns c = law.stores-open
