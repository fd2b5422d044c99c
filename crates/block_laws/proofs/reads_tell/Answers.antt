use Rattle.block_laws.proofs.Testing as law
use Rattle.block_laws.proofs.reads_tell.Goals as goal

pub returns : goal.returns
returns c = law.reads_tell
