use Rattle.std.proofs.Common.{length, sym, subst}
use Rattle.type_scopes.specs.Seen.{env_of}
use Rattle.declaration_rules.specs.Earlier.{ArePasts}
use Rattle.declaration_rules.proofs.doubles.redeclared.Goals as goal

pub add_lines_at-requires : goal.add_lines_at-requires
add_lines_at-requires c = subst (λ ps. ArePasts (env_of c.args.env.now) c.args.model (length c.args.env.now.entries) ps) (sym c.deref.ensures.value) c.in_ok-pasts.ensures
