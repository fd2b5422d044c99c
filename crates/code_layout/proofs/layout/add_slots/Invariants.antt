use Rattle.std.proofs.Common.{◌≡◌, ◌++◌, drop, length}
use Rattle.code_layout.specs.Layout.{slots_from, slot_cells}
use Rattle.code_layout.proofs.layout.add_slots.Given as goal

-- what is there and the rest are the whole
abbrev pub invariant-loop-is_read : goal.invariant-loop-is_read
invariant-loop-is_read l = record {
  slots : l.slots.items ++ slots_from (length l.cells.items) (drop l.is_read-index l.read) ≡ slots_from (length l.initial.cells.items) l.read;
  cells : l.cells.items ++ slot_cells (drop l.is_read-index l.read) ≡ l.initial.cells.items ++ slot_cells l.read;
}
