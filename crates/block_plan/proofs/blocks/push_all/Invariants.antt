use Rattle.std.proofs.Common.{◌≡◌, drop}
use Rattle.block_plan.specs.Made.{befores_from}
use Rattle.block_plan.proofs.blocks.push_all.Given as goal

abbrev pub invariant-loop-number : goal.invariant-loop-number
invariant-loop-number l = befores_from l.matters l.befores l.number (drop l.number l.edges) ≡ befores_from l.matters l.initial.befores 0 l.edges
