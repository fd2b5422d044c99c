use Rattle.walk_states.specs.Walks.{moves_of}
use Rattle.block_places.proofs.Covering.{leaves-by}
use Rattle.block_places.proofs.leading.has_whole.Goals as goal

pub returns-then-leads_from-clause-tells : goal.returns-then-leads_from-clause-tells
returns-then-leads_from-clause-tells c = λ t.
    leaves-by c.args.graph.now c.args.node c.args.way.edge_at (moves_of c.args.graph.now c.args.way) c.args.way.to (c.leads_from.ensures.means c.if-leads_from.true) (c.is_whole.ensures.tells t)
