use Rattle.std.proofs.Common.{◌≡◌, take}
use Rattle.c_tree.specs.View.{statements_of}
use Rattle.first_broken.specs.Seen.{found_of}
use Rattle.type_scopes.specs.Seen.{env_of}
use Rattle.source_rules.specs.Summed as a
use Rattle.source_rules.proofs.statements.+statement.Given as goal

-- the sum of those so far
abbrev pub invariant-statements_found-loop-statement : goal.invariant-statements_found-loop-statement
invariant-statements_found-loop-statement l = found_of l.all ≡ a.statements_all (env_of l.env) l.model l.bodies l.again l.kind (statements_of (take l.statement-index l.statements))
