use Rattle.join_laws.proofs.Errors as law
use Rattle.join_laws.proofs.blocks_keep.Goals as goal

pub returns : goal.returns
returns c = law.blocks_keep
