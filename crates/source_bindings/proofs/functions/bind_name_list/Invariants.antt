use Rattle.std.proofs.Common.{◌≡◌, take}
use Rattle.c_tree.specs.View.{params_of}
use Rattle.name_bindings.specs.Bound as bd
use Rattle.type_scopes.specs.Seen.{env_of, scope_of}
use Rattle.source_bindings.proofs.functions.bind_name_list.Given as goal

-- those so far are bound
abbrev pub invariant-loop-parameter : goal.invariant-loop-parameter
invariant-loop-parameter l = env_of l.env ≡ bd.names l.model (scope_of l.region.scope) l.region.owner (env_of l.initial.env) (params_of (take l.parameter-index l.parameters))
