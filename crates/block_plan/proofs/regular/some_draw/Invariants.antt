use Rattle.std.proofs.Common.{◌≡◌, drop}
use Rattle.block_plan.specs.Made.{some_draw}
use Rattle.block_plan.proofs.regular.some_draw.Given as goal

abbrev pub invariant-loop-number : goal.invariant-loop-number
invariant-loop-number l = some_draw (drop l.number l.ops) ≡ some_draw l.ops
