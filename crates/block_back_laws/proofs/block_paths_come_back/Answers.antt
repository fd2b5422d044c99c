use Rattle.block_back_laws.proofs.Runs as law
use Rattle.block_back_laws.proofs.block_paths_come_back.Goals as goal

pub returns : goal.returns
returns c = law.block_paths_come_back
