use Rattle.std.proofs.Common.{◌≡◌, take}
use Rattle.c_tree.specs.View.{statements_of}
use Rattle.name_bindings.specs.Bound as bd
use Rattle.type_scopes.specs.Seen.{env_of, scope_of}
use Rattle.source_bindings.proofs.statements.+bind_in.Given as goal

-- those so far are bound
abbrev pub invariant-bind_statements-loop-statement : goal.invariant-bind_statements-loop-statement
invariant-bind_statements-loop-statement l = env_of l.env ≡ bd.statements l.model l.region.owner (scope_of l.region.scope) (env_of l.initial.env) (statements_of (take l.statement-index l.statements))
