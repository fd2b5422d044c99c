use Rattle.std.proofs.Common.{◌≡◌, ◌-◌, length}
use Rattle.block_plan.specs.Made.{gone_on, reach_from}
use Rattle.block_plan.proofs.alive.go_on.Given as goal

abbrev pub invariant-loop-turn : goal.invariant-loop-turn
invariant-loop-turn l = gone_on (reach_from l.graph) (length l.graph.nodes - l.turn) l.search ≡ gone_on (reach_from l.graph) (length l.graph.nodes) l.initial.search
