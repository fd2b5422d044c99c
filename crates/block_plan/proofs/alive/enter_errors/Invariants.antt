use Rattle.std.proofs.Common.{◌≡◌, drop}
use Rattle.block_plan.specs.Made.{enter_errors}
use Rattle.block_plan.proofs.alive.enter_errors.Given as goal

abbrev pub invariant-loop-number : goal.invariant-loop-number
invariant-loop-number l = enter_errors l.number (drop l.number l.nodes) l.search ≡ enter_errors 0 l.nodes l.initial.search
