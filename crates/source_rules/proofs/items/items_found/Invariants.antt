use Rattle.std.proofs.Common.{◌≡◌, take}
use Rattle.c_tree.specs.View.{items_of}
use Rattle.first_broken.specs.Seen.{found_of}
use Rattle.type_scopes.specs.Seen.{env_of}
use Rattle.source_rules.specs.Summed as a
use Rattle.source_rules.proofs.items.items_found.Given as goal

-- the sum of those so far
abbrev pub invariant-loop-item : goal.invariant-loop-item
invariant-loop-item l = found_of l.all ≡ a.items_all (env_of l.env) l.model l.bodies l.again (items_of (take l.item-index l.items))
