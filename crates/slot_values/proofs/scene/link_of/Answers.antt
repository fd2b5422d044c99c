use Rattle.std.proofs.Common.{arith}
use Rattle.slot_values.proofs.Rows.{link_step}
use Rattle.slot_values.proofs.scene.link_of.Goals as goal

pub loop-link-preserved : goal.loop-link-preserved
loop-link-preserved c =
    link_step c.args.function c.args.links.now c.loop-link.link-index _ c.loop-link.found c.newer-found.result (omega arith) c.loop-link.invariant c.newer-found.ensures
