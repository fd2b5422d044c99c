use Rattle.std.proofs.Common.{◌≡◌, ◌-◌, length, take}
use Rattle.block_plan.specs.Made.{over_operations}
use Rattle.block_plan.proofs.live.over_operations.Given as goal

abbrev pub invariant-loop-behind : goal.invariant-loop-behind
invariant-loop-behind l = over_operations l.units l.reads (take (length l.ops - l.behind) l.ops) l.scratch.items ≡ over_operations l.units l.reads l.ops l.initial.scratch.items
