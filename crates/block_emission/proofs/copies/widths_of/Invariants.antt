use Rattle.std.proofs.Common.{◌≡◌, ◌++◌, drop}
use Rattle.c_graph.specs.Shape.{widths_of}
use Rattle.block_emission.proofs.copies.widths_of.Given as goal

abbrev pub invariant-loop-number : goal.invariant-loop-number
invariant-loop-number l = l.widths.items ++ widths_of (drop l.number l.cells) ≡ widths_of l.cells
