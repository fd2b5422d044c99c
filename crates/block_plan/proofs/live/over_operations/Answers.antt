use Rattle.std.proofs.Common.{◌<◌, length, refl}
use Rattle.block_plan.proofs.Turning.{over_turn}
use Rattle.block_plan.proofs.live.over_operations.Goals as goal

pub loop-behind-preserved : goal.loop-behind-preserved
loop-behind-preserved c =
    let lt : c.loop-behind.behind < length c.args.ops.now = c.loop-behind-test.true in
    over_turn c.args.units.now c.args.reads.now c.args.ops.now c.loop-behind.behind _ _ c.loop-behind.scratch.items c.over_operation.new.scratch.items _ lt
    refl c.over_operation.ensures.made c.loop-behind.invariant
