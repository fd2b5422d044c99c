use Rattle.std.proofs.Common.{◌≡◌, ◌-◌, length}
use Rattle.block_plan.specs.Made.{enter_chain}
use Rattle.block_plan.proofs.alive.enter_chain.Given as goal

abbrev pub invariant-loop-turn : goal.invariant-loop-turn
invariant-loop-turn l = enter_chain l.graph.edges l.next (length l.graph.edges - l.turn) l.at l.search ≡ enter_chain l.graph.edges l.next (length l.graph.edges) l.initial.at l.initial.search
