use Rattle.std.proofs.Common.{◌≡◌, drop}
use Rattle.block_plan.specs.Made.{mark}
use Rattle.block_plan.proofs.live.mark.Given as goal

abbrev pub invariant-loop-number : goal.invariant-loop-number
invariant-loop-number l = mark l.scratch.items (drop l.number l.units) ≡ mark l.initial.scratch.items l.units
