use Rattle.std.proofs.Common.{◌≡◌, take}
use Rattle.c_tree.specs.View.{params_of}
use Rattle.c_meaning.specs.Bindings.{params_kinds}
use Rattle.type_scopes.specs.Seen.{env_of}
use Rattle.type_scopes.proofs.words.kinds_of.Given as goal

abbrev pub invariant-loop-parameter : goal.invariant-loop-parameter
invariant-loop-parameter l = l.kinds.items ≡ params_kinds (env_of l.env) (params_of (take l.parameter-index l.parameters))
