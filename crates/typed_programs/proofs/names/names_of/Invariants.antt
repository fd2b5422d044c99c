use Rattle.std.proofs.Common.{◌≡◌, take}
use Rattle.c_tree.specs.View.{items_of}
use Rattle.typed_programs.specs.Parts as part
use Rattle.typed_programs.proofs.names.names_of.Given as goal

-- the names so far
abbrev pub invariant-loop-item : goal.invariant-loop-item
invariant-loop-item l = l.names.items ≡ part.names_of (items_of (take l.item-index l.items))
