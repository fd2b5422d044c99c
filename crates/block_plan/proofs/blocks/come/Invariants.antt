use Rattle.std.proofs.Common.{◌≡◌, ◌-◌, length}
use Rattle.block_plan.specs.Made.{blocks_along, blocks_before, came_all, came_none, is_error, taken_all}
use Rattle.block_plan.proofs.blocks.come.Given as goal

abbrev pub invariant-loop-turn : goal.invariant-loop-turn
invariant-loop-turn l =
    (came_all (blocks_along l.befores l.node l.starts (length l.graph.edges - l.turn) l.at) l.came ≡ came_all (blocks_before l.graph l.befores l.node l.starts) came_none)
    × (taken_all (is_error l.graph l.node) (blocks_along l.befores l.node l.starts (length l.graph.edges - l.turn) l.at) l.pending
    ≡ taken_all (is_error l.graph l.node) (blocks_before l.graph l.befores l.node l.starts) l.initial.pending)
    × (l.is_end ≡ is_error l.graph l.node)
