use Rattle.block_plan.proofs.Turning.{through_turn}
use Rattle.block_plan.proofs.blocks.go_through_all.Goals as goal

pub loop-number-preserved : goal.loop-number-preserved
loop-number-preserved c =
    through_turn c.args.graph.now c.args.befores.now _ (record { plan = c.loop-number.blocks; pending = c.loop-number.pending }) (record { plan = c.go_if.new.blocks; pending = c.go_if.new.pending }) c.loop-number.number
    c.go_if.ensures.made c.loop-number.invariant
