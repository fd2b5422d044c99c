use Rattle.std.proofs.Common.{map, arith}
use Rattle.type_scopes.specs.Seen as seen
use Rattle.declaration_rules.proofs.Twins.{nameless}
use Rattle.declaration_rules.proofs.earlier.last_met.Goals as goal

pub returns-then-entry-eq0 : goal.returns-then-entry-eq0
returns-then-entry-eq0 c = nameless (seen.declared_of c.args.entry.now) (map seen.entry_of c.args.env.now.entries) c.args.place (omega (arith, c.if-entry-eq0.true))
