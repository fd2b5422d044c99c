use Rattle.blast_laws.proofs.Runs as law
use Rattle.blast_laws.proofs.renew_starts.Goals as goal

pub returns : goal.returns
returns c = law.renew_starts
