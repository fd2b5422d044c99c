use Rattle.edge_chain_laws.proofs.Along as law
use Rattle.edge_chain_laws.proofs.chains_keep_visits.Goals as goal

pub returns : goal.returns
returns c = law.chains_keep_visits
