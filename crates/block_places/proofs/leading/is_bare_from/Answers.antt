use Rattle.std.proofs.Common.{[], ◌∷◌}
use Rattle.c_graph.specs.declared.graph.Operation.TheVariants.{Assume}
use Rattle.block_places.proofs.Covering.{leaves-by}
use Rattle.block_places.proofs.leading.is_bare_from.Goals as goal

pub returns-then-leads_from-clause-tells : goal.returns-then-leads_from-clause-tells
returns-then-leads_from-clause-tells c = λ t.
    leaves-by c.args.graph.now c.args.node c.args.number (Assume c.args.test ∷ []) c.args.to (c.leads_from.ensures.means c.if-leads_from.true) (c.is_bare.ensures.tells t)
