use Rattle.std.proofs.Common.{◌≡◌, take}
use Rattle.c_graph.specs.Shape.{widths_of}
use Rattle.cert_check.proofs.map.table_of.Given as goal

abbrev pub invariant-loop-term : goal.invariant-loop-term
invariant-loop-term l = record {
  cells : l.table.cells ≡ widths_of l.graph.cells;
  terms : l.table.terms ≡ take l.term-index l.terms;
}
