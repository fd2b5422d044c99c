use Rattle.edge_chain_back_laws.proofs.Unjoining as law
use Rattle.edge_chain_back_laws.proofs.chain_errors_come_back.Goals as goal

pub returns : goal.returns
returns c = law.chain_errors_come_back
