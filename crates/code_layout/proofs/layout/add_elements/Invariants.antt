use Rattle.std.proofs.Common.{◌≡◌, ◌++◌, drop, length}
use Rattle.code_layout.specs.Layout.{firsts_from, object_cells}
use Rattle.code_layout.proofs.layout.add_elements.Given as goal

-- what is there and the rest are the whole
abbrev pub invariant-loop-object : goal.invariant-loop-object
invariant-loop-object l = record {
  firsts : l.firsts.items ++ firsts_from (length l.cells.items) (drop l.object-index l.objects) ≡ firsts_from (length l.initial.cells.items) l.objects;
  cells : l.cells.items ++ object_cells l.model l.number (drop l.object-index l.objects) ≡ l.initial.cells.items ++ object_cells l.model 0 l.objects;
}
