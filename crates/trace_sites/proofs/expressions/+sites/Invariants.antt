use Rattle.std.proofs.Common.{◌≡◌, take}
use Rattle.c_tree.specs.View.{parts_of}
use Rattle.trace_sites.specs.Expressions.{parts_behind}
use Rattle.trace_sites.proofs.expressions.+sites.Given as goal

-- the sites in the parts so far are found
abbrev pub invariant-part_sites-loop-part : goal.invariant-part_sites-loop-part
invariant-part_sites-loop-part l = l.found.items ≡ parts_behind l.initial.found.items (parts_of (take l.part-index l.parts))
