use Rattle.std.proofs.Common.{◌≡◌}
use Rattle.block_plan.specs.Made.{Planning, gone_through}
use Rattle.block_plan.proofs.blocks.go_through_all.Given as goal

abbrev pub invariant-loop-number : goal.invariant-loop-number
invariant-loop-number l = ◌≡◌ {A = Planning} (record { plan = l.blocks; pending = l.pending }) (gone_through l.graph l.befores (record { plan = l.initial.blocks; pending = l.initial.pending }) l.number)
