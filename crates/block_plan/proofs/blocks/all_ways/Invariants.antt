use Rattle.std.proofs.Common.{◌≡◌}
use Rattle.block_plan.specs.Made.{ways_below}
use Rattle.block_plan.proofs.blocks.all_ways.Given as goal

abbrev pub invariant-loop-number : goal.invariant-loop-number
invariant-loop-number l = l.ways.items ≡ ways_below l.graph l.matters l.number
