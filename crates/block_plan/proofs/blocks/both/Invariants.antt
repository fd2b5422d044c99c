use Rattle.std.proofs.Common.{◌≡◌}
use Rattle.plan_tables.specs.Made.{flags_new}
use Rattle.block_plan.specs.Made.{both_below}
use Rattle.block_plan.proofs.blocks.both.Given as goal

abbrev pub invariant-loop-number : goal.invariant-loop-number
invariant-loop-number l = l.found ≡ both_below l.first l.second (flags_new l.count) l.number
