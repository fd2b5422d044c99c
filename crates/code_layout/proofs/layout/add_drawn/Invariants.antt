use Rattle.std.proofs.Common.{◌≡◌, ◌++◌, drop, length}
use Rattle.code_layout.specs.Layout.{drawn_from, drawn_cells}
use Rattle.code_layout.proofs.layout.add_drawn.Given as goal

-- what is there and the rest are the whole
abbrev pub invariant-loop-width : goal.invariant-loop-width
invariant-loop-width l = record {
  drawn : l.drawn.items ++ drawn_from (length l.cells.items) (drop l.width-index l.widths) ≡ drawn_from (length l.initial.cells.items) l.widths;
  cells : l.cells.items ++ drawn_cells (drop l.width-index l.widths) ≡ l.initial.cells.items ++ drawn_cells l.widths;
}
