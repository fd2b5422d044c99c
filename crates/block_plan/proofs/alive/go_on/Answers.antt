use Rattle.std.proofs.Common.{rules, ◌≡◌, ◌<◌, sym, length, Some}
use Rattle.block_plan.specs.Made.{next_waiting, reach_from}
use Rattle.block_plan.proofs.Turning.{search_turn}
use Rattle.block_plan.proofs.alive.go_on.Goals as goal

pub loop-turn-preserved : goal.loop-turn-preserved
loop-turn-preserved c =
    let lt : c.loop-turn.turn < length c.args.graph.now.nodes = search rules in
    let next : next_waiting c.loop-turn.search ≡ Some c.in-Some.node = sym c.in-Some.ensures.made in
    search_turn (reach_from c.args.graph.now) c.loop-turn.search c.next.new.self c.reach_from.new.search (length c.args.graph.now.nodes) c.loop-turn.turn c.in-Some.node lt next
    c.next.ensures.rest c.in_ok-reach_from.ensures.made _ c.loop-turn.invariant
