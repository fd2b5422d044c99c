use Rattle.blast_laws.proofs.Runs as law
use Rattle.blast_laws.proofs.new_starts.Goals as goal

pub returns : goal.returns
returns c = law.new_starts
