use Rattle.std.proofs.Common.{◌≡◌, take}
use Rattle.c_tree.specs.View.{words_of, declarators_of}
use Rattle.name_bindings.specs.Bound as bd
use Rattle.type_scopes.specs.Seen.{env_of, scope_of}
use Rattle.source_bindings.proofs.declarators.bind_declarators.Given as goal

-- those so far are bound
abbrev pub invariant-loop-declarator : goal.invariant-loop-declarator
invariant-loop-declarator l = env_of l.env ≡ bd.declarators l.model (scope_of l.region.scope) l.region.owner (env_of l.initial.env) (words_of l.specs) (declarators_of (take l.declarator-index l.declarators))
