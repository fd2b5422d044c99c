use Rattle.blast_laws.proofs.Scopes as law
use Rattle.blast_laws.proofs.reads_scope.Goals as goal

pub returns : goal.returns
returns c = law.reads_scope
