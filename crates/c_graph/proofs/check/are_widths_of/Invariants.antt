use Rattle.std.proofs.Common.{◌≡◌, take}
use Rattle.c_graph.specs.Shape.{widths_of}
use Rattle.c_graph.proofs.check.are_widths_of.Given as goal

abbrev pub invariant-loop-number : goal.invariant-loop-number
invariant-loop-number l = take l.number l.widths ≡ widths_of (take l.number l.cells)
