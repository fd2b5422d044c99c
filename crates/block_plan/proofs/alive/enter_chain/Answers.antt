use Rattle.std.proofs.Common.{rules, ◌<◌, length}
use Rattle.block_plan.proofs.Turning.{chain_turn}
use Rattle.block_plan.proofs.alive.enter_chain.Goals as goal

pub loop-turn-preserved : goal.loop-turn-preserved
loop-turn-preserved c =
    let lt : c.loop-turn.turn < length c.args.graph.now.edges = search rules in
    chain_turn c.args.graph.now.edges c.args.next.now (length c.args.graph.now.edges) c.loop-turn.turn c.in-Some.number c.loop-turn.at c.get-at.result c.loop-turn.search c.enter_source.new.search _ lt
    c.in-Some.is c.in_ok-enter_source.ensures.made c.get-at.ensures.made c.loop-turn.invariant
