use Rattle.std.proofs.Common.{◌≡◌, take}
use Rattle.c_tree.specs.View.{parts_of}
use Rattle.first_broken.specs.Seen.{found_of}
use Rattle.type_scopes.specs.Seen.{env_of}
use Rattle.source_rules.specs.Summed as a
use Rattle.source_rules.proofs.declarations.firsts_found.Given as goal

-- the sum of those so far
abbrev pub invariant-loop-part : goal.invariant-loop-part
invariant-loop-part l = found_of l.all ≡ a.firsts_all (env_of l.env) l.model l.bodies l.again l.is_static (parts_of (take l.part-index l.parts))
