use Rattle.std.proofs.Common.{◌≡◌, ◌++◌, drop, map}
use Rattle.c_typed.specs.View as tv
use Rattle.c_types.specs.Elaborated as el
use Rattle.type_scopes.specs.Seen.{env_of, object_of}
use Rattle.typed_programs.proofs.objects.typed_objects.Given as goal

-- those so far, and those that are left
abbrev pub invariant-loop-i : goal.invariant-loop-i
invariant-loop-i l = map tv.object_of l.objects.items ++ el.objects_from (env_of l.env) l.model l.i (map object_of (drop l.i l.env.objects.items)) ≡ el.objects_from (env_of l.env) l.model 0 (map object_of l.env.objects.items)
