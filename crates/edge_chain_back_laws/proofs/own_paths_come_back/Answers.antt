use Rattle.edge_chain_back_laws.proofs.Unjoining as law
use Rattle.edge_chain_back_laws.proofs.own_paths_come_back.Goals as goal

pub returns : goal.returns
returns c = law.own_paths_come_back
