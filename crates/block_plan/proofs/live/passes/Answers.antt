use Rattle.std.proofs.Common.{rules, ◌+◌, ◌<◌, length}
use Rattle.block_plan.proofs.Turning.{pass_turn}
use Rattle.block_plan.proofs.live.passes.Goals as goal

pub loop-turn-preserved : goal.loop-turn-preserved
loop-turn-preserved c =
    let lt : c.loop-turn.turn < length c.args.graph.now.nodes + 1 = search rules in
    pass_turn c.args.graph.now c.args.blocks.now c.args.units.now c.args.reads.now (length c.args.graph.now.nodes + 1) c.loop-turn.turn c.is_changed.result c.loop-turn.passing c.pass.new.passing _ lt
    c.in_ok-pass.ensures.made c.is_changed.ensures.made c.if-not-is_changed.false c.loop-turn.invariant
