use Rattle.type_scopes.specs.Seen as seen
use Rattle.declaration_rules.proofs.Twins.{IsPassing}
use Rattle.declaration_rules.proofs.earlier.twin_met.Given as goal

abbrev pub invariant-twins : goal.invariant-twins
invariant-twins l = IsPassing (seen.declared_of l.entry) (seen.env_of l.env).entries l.place l.left

abbrev pub decreases-twins : goal.decreases-twins
decreases-twins l = l.left
