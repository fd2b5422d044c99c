use Rattle.std.proofs.Common.{◌≡◌, ◌++◌, drop}
use Rattle.prop.specs.Trues.{listed}
use Rattle.c_graph.specs.Shape.{widths_of}
use Rattle.path_laws.specs.Values.{values_read}
use Rattle.refine.proofs.values.drawn_values.Given as goal

abbrev pub invariant-loop-number : goal.invariant-loop-number
invariant-loop-number l =
    l.values.items ++ values_read (widths_of l.graph.cells) (listed l.found) (drop l.number l.draws) (drop l.number l.signs.items)
    ≡ values_read (widths_of l.graph.cells) (listed l.found) l.query.draws l.signs.items
