use Rattle.edge_chains.proofs.Following.{unjoined}
use Rattle.edge_chains.proofs.chains.join_chains.Goals as goal

pub returns-in-None-clause-joined : goal.returns-in-None-clause-joined
returns-in-None-clause-joined c = unjoined c.args.nodes.now c.args.loops.now c.args.entry c.args.edges.items
