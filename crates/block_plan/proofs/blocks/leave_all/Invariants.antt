use Rattle.std.proofs.Common.{◌≡◌, ◌-◌, length}
use Rattle.block_plan.specs.Made.{blocks_along, blocks_before, left_all}
use Rattle.block_plan.proofs.blocks.leave_all.Given as goal

abbrev pub invariant-loop-turn : goal.invariant-loop-turn
invariant-loop-turn l =
    left_all (blocks_along l.befores l.node l.starts (length l.graph.edges - l.turn) l.at) l.pending
    ≡ left_all (blocks_before l.graph l.befores l.node l.starts) l.initial.pending
