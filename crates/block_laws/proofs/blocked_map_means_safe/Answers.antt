use Rattle.block_laws.proofs.Runs as law
use Rattle.block_laws.proofs.blocked_map_means_safe.Goals as goal

pub returns : goal.returns
returns c = law.blocked_map_means_safe
