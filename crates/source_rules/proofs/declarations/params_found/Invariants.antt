use Rattle.std.proofs.Common.{◌≡◌, take}
use Rattle.c_tree.specs.View.{params_of}
use Rattle.first_broken.specs.Seen.{found_of}
use Rattle.type_scopes.specs.Seen.{env_of}
use Rattle.source_rules.specs.Summed as a
use Rattle.source_rules.proofs.declarations.params_found.Given as goal

-- the sum of those so far
abbrev pub invariant-loop-parameter : goal.invariant-loop-parameter
invariant-loop-parameter l = found_of l.all ≡ a.params_all (env_of l.env) l.model l.bodies l.again (params_of (take l.parameter-index l.parameters))
