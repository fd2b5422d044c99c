use Rattle.std.proofs.Common.{◌≡◌, drop}
use Rattle.block_plan.specs.Made.{enter_loops}
use Rattle.block_plan.proofs.alive.enter_loops.Given as goal

abbrev pub invariant-loop-number : goal.invariant-loop-number
invariant-loop-number l = enter_loops (drop l.number l.loops) l.search ≡ enter_loops l.loops l.initial.search
