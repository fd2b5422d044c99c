use Rattle.std.proofs.Common.{◌≡◌, ◌++◌}
use Rattle.code_layout.specs.Layout.{element_cells}
use Rattle.code_layout.proofs.layout.add_object.Given as goal

-- the cells so far
abbrev pub invariant-loop-element : goal.invariant-loop-element
invariant-loop-element l = l.cells.items ≡ l.initial.cells.items ++ element_cells l.bits l.number l.element
