use Rattle.std.proofs.Common.{◌≡◌, drop}
use Rattle.block_plan.specs.Made.{ends_cut}
use Rattle.block_plan.proofs.blocks.cut_ends.Given as goal

abbrev pub invariant-loop-number : goal.invariant-loop-number
invariant-loop-number l = ends_cut l.ways l.cuts l.number (drop l.number l.nodes) ≡ ends_cut l.ways l.initial.cuts 0 l.nodes
