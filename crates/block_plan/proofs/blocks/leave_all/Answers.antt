use Rattle.std.proofs.Common.{rules, ◌<◌, ap, length, ℕ}
use Rattle.block_plan.proofs.Turning.{left_turn, with_left}
use Rattle.block_plan.proofs.blocks.leave_all.Goals as goal

pub loop-turn-preserved : goal.loop-turn-preserved
loop-turn-preserved c =
    let count : ℕ = length c.args.graph.now.edges in
    let lt : c.loop-turn.turn < count = search rules in
    left_turn c.args.befores.now c.args.node c.args.starts.now count c.loop-turn.turn c.in-Some.number c.block_before-block.result c.loop-turn.at c.behind-at.result c.loop-turn.pending _ _ lt
    c.in-Some.is c.behind-at.ensures.made c.block_before-block.ensures.made (ap (with_left c.loop-turn.pending) c.set.ensures.made) c.loop-turn.invariant
