use Rattle.block_laws.proofs.Runs as law
use Rattle.block_laws.proofs.blocks_keep_visits.Goals as goal

pub returns : goal.returns
returns c = law.blocks_keep_visits
