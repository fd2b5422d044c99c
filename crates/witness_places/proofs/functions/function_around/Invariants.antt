use Rattle.std.proofs.Common.{◌≡◌, take}
use Rattle.c_tree.specs.View.{items_of}
use Rattle.witness_places.specs.Functions.{function_around}
use Rattle.witness_places.proofs.functions.function_around.Given as goal

-- what was found in the items so far
abbrev pub invariant-loop-item : goal.invariant-loop-item
invariant-loop-item l = l.found ≡ function_around (items_of (take l.item-index l.unit.items.items)) l.at
