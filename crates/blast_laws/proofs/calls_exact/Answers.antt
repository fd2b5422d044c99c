use Rattle.blast_laws.proofs.Runs as law
use Rattle.blast_laws.proofs.calls_exact.Goals as goal

pub returns : goal.returns
returns c = law.calls_exact
