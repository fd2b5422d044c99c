use Rattle.std.proofs.Common.{◌≡◌, drop}
use Rattle.block_plan.specs.Made.{loops_listed}
use Rattle.block_plan.proofs.blocks.list_loops.Given as goal

abbrev pub invariant-loop-number : goal.invariant-loop-number
invariant-loop-number l = loops_listed l.listed (drop l.number l.loops) ≡ loops_listed l.initial.listed l.loops
