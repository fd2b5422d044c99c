use Rattle.std.proofs.Common.{◌≡◌, take}
use Rattle.c_tree.specs.View.{parts_of}
use Rattle.c_typed.specs.View.{values_of}
use Rattle.c_types.specs.Elaborated as el
use Rattle.type_scopes.specs.Seen.{env_of}
use Rattle.typed_expressions.proofs.expressions.+typed.Given as goal

-- those so far are typed
abbrev pub invariant-typed_list-loop-part : goal.invariant-typed_list-loop-part
invariant-typed_list-loop-part l = values_of l.values.items ≡ el.values (env_of l.env) l.model l.bodies (parts_of (take l.part-index l.parts))

-- those so far are typed
abbrev pub invariant-typed_arguments-loop-i : goal.invariant-typed_arguments-loop-i
invariant-typed_arguments-loop-i l = values_of l.values.items ≡ el.arguments (env_of l.env) l.model l.bodies l.kinds (parts_of (take l.i l.parts))
