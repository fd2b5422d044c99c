use Rattle.type_scopes.specs.Seen.{env_of}
use Rattle.declaration_rules.specs.Earlier.{ArePasts}
use Rattle.declaration_rules.proofs.earlier.pasts_of.Given as goal

-- it is known of those so far
abbrev pub invariant-loop-place : goal.invariant-loop-place
invariant-loop-place l = ArePasts (env_of l.env) l.model l.place l.pasts.items
