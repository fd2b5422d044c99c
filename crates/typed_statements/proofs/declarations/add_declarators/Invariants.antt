use Rattle.std.proofs.Common.{◌≡◌, take}
use Rattle.c_tree.specs.View.{declarators_of}
use Rattle.c_typed.specs.View.{steps_of}
use Rattle.c_types.specs.Elaborated as el
use Rattle.type_scopes.specs.Seen.{env_of}
use Rattle.typed_statements.proofs.declarations.add_declarators.Given as goal

-- those so far are declared
abbrev pub invariant-loop-declarator : goal.invariant-loop-declarator
invariant-loop-declarator l = steps_of l.steps.items ≡ el.declaring (env_of l.env) l.model l.bodies (steps_of l.initial.steps.items) (declarators_of (take l.declarator-index l.declarators))
