use Rattle.std.proofs.Common.{◌≡◌, drop}
use Rattle.block_plan.specs.Made.{enter_targets}
use Rattle.block_plan.proofs.alive.enter_targets.Given as goal

abbrev pub invariant-loop-number : goal.invariant-loop-number
invariant-loop-number l = enter_targets l.graph.edges (drop l.number l.outs) l.search ≡ enter_targets l.graph.edges l.outs l.initial.search
