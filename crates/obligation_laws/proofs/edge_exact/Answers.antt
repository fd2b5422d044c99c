use Rattle.obligation_laws.proofs.Exact as law
use Rattle.obligation_laws.proofs.edge_exact.Goals as goal

pub returns : goal.returns
returns c = law.edge_exact
