use Rattle.std.proofs.Common.{◌≡◌, [], take, map}
use Rattle.first_broken.specs.Seen.{broken_of}
use Rattle.type_scopes.specs.Seen as seen
use Rattle.declaration_rules.specs.Twice as t
use Rattle.declaration_rules.proofs.doubles.redeclared.Given as goal

-- the lines of those so far
abbrev pub invariant-loop-place : goal.invariant-loop-place
invariant-loop-place l = map broken_of l.found.items ≡ t.twice (seen.env_of l.env) l.model [] (take l.place (seen.env_of l.env).entries)
