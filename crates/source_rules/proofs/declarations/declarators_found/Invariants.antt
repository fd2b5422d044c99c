use Rattle.std.proofs.Common.{◌≡◌, take}
use Rattle.c_tree.specs.View.{declarators_of}
use Rattle.first_broken.specs.Seen.{found_of}
use Rattle.type_scopes.specs.Seen.{env_of}
use Rattle.source_rules.specs.Summed as a
use Rattle.source_rules.proofs.declarations.declarators_found.Given as goal

-- the sum of those so far
abbrev pub invariant-loop-declarator : goal.invariant-loop-declarator
invariant-loop-declarator l = found_of l.all ≡ a.declarators_all (env_of l.env) l.model l.bodies l.again l.is_static (declarators_of (take l.declarator-index l.declarators))
