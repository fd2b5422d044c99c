use Rattle.obligation_laws.proofs.Inductive as law
use Rattle.obligation_laws.proofs.inductive_exact.Goals as goal

pub returns : goal.returns
returns c = law.inductive_exact
