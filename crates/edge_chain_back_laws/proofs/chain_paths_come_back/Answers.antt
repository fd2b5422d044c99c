use Rattle.edge_chain_back_laws.proofs.Unjoining as law
use Rattle.edge_chain_back_laws.proofs.chain_paths_come_back.Goals as goal

pub returns : goal.returns
returns c = law.chain_paths_come_back
