use Rattle.std.proofs.Common.{◌≡◌, take, map}
use Rattle.c_tree.specs.View.{items_of}
use Rattle.c_meaning.specs.Program as program
use Rattle.c_typed.specs.View as tv
use Rattle.c_types.specs.Elaborated as el
use Rattle.type_scopes.specs.Seen.{env_of}
use Rattle.typed_programs.proofs.functions.typed_functions.Given as goal

-- those so far are typed
abbrev pub invariant-loop-item : goal.invariant-loop-item
invariant-loop-item l = map tv.function_of l.functions.items ≡ map (el.function_of (env_of l.env) l.model l.bodies) (program.functions_of (env_of l.env) (items_of (take l.item-index l.items)))
