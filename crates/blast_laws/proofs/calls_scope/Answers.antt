use Rattle.blast_laws.proofs.Scopes as law
use Rattle.blast_laws.proofs.calls_scope.Goals as goal

pub returns : goal.returns
returns c = law.calls_scope
