use Rattle.std.proofs.Common.{◌≡◌, take}
use Rattle.c_tree.specs.View.{parts_of}
use Rattle.c_typed.specs.View.{values_of}
use Rattle.c_types.specs.Elaborated as el
use Rattle.type_scopes.specs.Seen.{env_of}
use Rattle.typed_statements.proofs.declarations.typed_list_as.Given as goal

-- those so far are typed
abbrev pub invariant-loop-part : goal.invariant-loop-part
invariant-loop-part l = values_of l.values.items ≡ el.values_as (env_of l.env) l.model l.bodies l.kind (parts_of (take l.part-index l.parts))
