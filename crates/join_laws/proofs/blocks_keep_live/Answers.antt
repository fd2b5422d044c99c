use Rattle.join_laws.proofs.Visits as law
use Rattle.join_laws.proofs.blocks_keep_live.Goals as goal

pub returns : goal.returns
returns c = law.blocks_keep_live
