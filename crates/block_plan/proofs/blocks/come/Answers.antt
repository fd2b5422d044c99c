use Rattle.std.proofs.Common.{rules, ◌<◌, length, ℕ}
use Rattle.block_plan.proofs.Turning.{came_turn, taken_turn}
use Rattle.block_plan.proofs.blocks.come.Goals as goal

pub loop-turn-preserved : goal.loop-turn-preserved
loop-turn-preserved c =
    let b = c.args.befores.now in
    let count : ℕ = length c.args.graph.now.edges in
    let lt : c.loop-turn.turn < count = search rules in
    let block : ℕ = c.block_before-block.result in (
      came_turn b c.args.node c.args.starts.now count c.loop-turn.turn c.in-Some.number block c.loop-turn.at c.behind-at.result c.loop-turn.came c.came_from-came.result _ lt
          c.in-Some.is c.behind-at.ensures.made c.block_before-block.ensures.made c.came_from-came.ensures.made c.loop-turn.invariant.0,
      taken_turn b c.args.node c.args.starts.now count c.loop-turn.turn c.in-Some.number block c.loop-turn.at c.behind-at.result c.is_error-is_end.result _ c.loop-turn.pending c.take.new.pending _ lt
          c.in-Some.is c.behind-at.ensures.made c.block_before-block.ensures.made c.loop-turn.invariant.2 c.take.ensures.made c.loop-turn.invariant.1,
      c.loop-turn.invariant.2,
    )
