use Rattle.std.proofs.Common.{◌≡◌, ◌++◌, drop, All}
use Rattle.bv_term.specs.WellFormed.{IsWidth}
use Rattle.c_graph.specs.Shape.{widths_of}
use Rattle.code_layout.proofs.layout.widths_of.Given as goal

abbrev pub invariant-loop-cell : goal.invariant-loop-cell
invariant-loop-cell l = record {
  widths : l.widths.items ++ widths_of (drop l.cell-index l.cells) ≡ widths_of l.cells;
  fit : All IsWidth l.widths.items;
}
