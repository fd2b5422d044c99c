use Rattle.std.proofs.Common.{◌≡◌, take}
use Rattle.c_tree.specs.View.{items_of}
use Rattle.witness_places.specs.Loops.{main_loops}
use Rattle.witness_places.proofs.loops.main_loops.Given as goal

-- the loops of the items so far are found
abbrev pub invariant-loop-item : goal.invariant-loop-item
invariant-loop-item l = l.found.items ≡ main_loops (items_of (take l.item-index l.unit.items.items))
