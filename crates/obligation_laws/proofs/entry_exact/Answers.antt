use Rattle.obligation_laws.proofs.Nodes as law
use Rattle.obligation_laws.proofs.entry_exact.Goals as goal

pub returns : goal.returns
returns c = law.entry_exact
