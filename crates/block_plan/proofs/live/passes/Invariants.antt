use Rattle.std.proofs.Common.{◌≡◌, ◌+◌, ◌-◌, length}
use Rattle.block_plan.specs.Made.{passes}
use Rattle.block_plan.proofs.live.passes.Given as goal

abbrev pub invariant-loop-turn : goal.invariant-loop-turn
invariant-loop-turn l = passes l.graph l.blocks l.units l.reads (length l.graph.nodes + 1 - l.turn) l.passing ≡ passes l.graph l.blocks l.units l.reads (length l.graph.nodes + 1) l.initial.passing
