use Rattle.std.proofs.Common.{◌≡◌, drop}
use Rattle.block_plan.specs.Made.{all_chained}
use Rattle.block_plan.proofs.alive.chain_all.Given as goal

abbrev pub invariant-loop-number : goal.invariant-loop-number
invariant-loop-number l = all_chained l.chains l.number (drop l.number l.edges) ≡ all_chained l.initial.chains 0 l.edges
