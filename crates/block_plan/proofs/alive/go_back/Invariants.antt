use Rattle.std.proofs.Common.{◌≡◌, ◌-◌, length}
use Rattle.block_plan.specs.Made.{gone_on, enter_sources}
use Rattle.block_plan.proofs.alive.go_back.Given as goal

abbrev pub invariant-loop-turn : goal.invariant-loop-turn
invariant-loop-turn l = gone_on (enter_sources l.graph l.chains) (length l.graph.nodes - l.turn) l.search ≡ gone_on (enter_sources l.graph l.chains) (length l.graph.nodes) l.initial.search
