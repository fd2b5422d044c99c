use Rattle.std.proofs.Common.{rules, ◌≡◌, ◌<◌, sym, length, Some}
use Rattle.block_plan.specs.Made.{next_waiting, enter_sources}
use Rattle.block_plan.proofs.Turning.{search_turn}
use Rattle.block_plan.proofs.alive.go_back.Goals as goal

pub loop-turn-preserved : goal.loop-turn-preserved
loop-turn-preserved c =
    let lt : c.loop-turn.turn < length c.args.graph.now.nodes = search rules in
    let next : next_waiting c.loop-turn.search ≡ Some c.in-Some.node = sym c.in-Some.ensures.made in
    search_turn (enter_sources c.args.graph.now c.args.chains.now) c.loop-turn.search c.next.new.self c.enter_sources.new.search (length c.args.graph.now.nodes) c.loop-turn.turn c.in-Some.node lt next
    c.next.ensures.rest c.in_ok-enter_sources.ensures.made _ c.loop-turn.invariant
