use Rattle.blast_laws.proofs.Runs as law
use Rattle.blast_laws.proofs.truths_read.Goals as goal

pub returns : goal.returns
returns c = law.truths_read
