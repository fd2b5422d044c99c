use Rattle.path_laws.proofs.Reading as law
use Rattle.path_laws.proofs.draws_are_read.Goals as goal

pub returns : goal.returns
returns c = law.draws_are_read
