use Rattle.obligation_laws.proofs.Nodes as law
use Rattle.obligation_laws.proofs.error_exact.Goals as goal

pub returns : goal.returns
returns c = law.error_exact
