use Rattle.std.proofs.Common.{◌≡◌, take}
use Rattle.c_tree.specs.View.{statements_of}
use Rattle.c_typed.specs.View.{steps_of}
use Rattle.c_types.specs.Elaborated as el
use Rattle.type_scopes.specs.Seen.{env_of}
use Rattle.typed_statements.proofs.statements.+typed.Given as goal

-- those so far are typed
abbrev pub invariant-typed_statements-loop-statement : goal.invariant-typed_statements-loop-statement
invariant-typed_statements-loop-statement l = steps_of l.steps.items ≡ el.steps (env_of l.env) l.model l.bodies l.result_kind (statements_of (take l.statement-index l.statements))
