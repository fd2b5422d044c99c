use Rattle.std.proofs.Common.{◌≡◌, drop}
use Rattle.block_plan.specs.Made.{targets_cut}
use Rattle.block_plan.proofs.blocks.cut_targets.Given as goal

abbrev pub invariant-loop-number : goal.invariant-loop-number
invariant-loop-number l = targets_cut l.ways l.matters l.cuts (drop l.number l.edges) ≡ targets_cut l.ways l.matters l.initial.cuts l.edges
