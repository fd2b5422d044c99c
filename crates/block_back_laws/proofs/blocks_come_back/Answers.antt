use Rattle.block_back_laws.proofs.Runs as law
use Rattle.block_back_laws.proofs.blocks_come_back.Goals as goal

pub returns : goal.returns
returns c = law.blocks_come_back
