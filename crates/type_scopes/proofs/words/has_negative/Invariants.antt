use Rattle.std.proofs.Common.{◌≡◌, take}
use Rattle.c_tree.specs.View.{enumerators_of}
use Rattle.c_meaning.specs.Bindings.{has_negative}
use Rattle.type_scopes.specs.Seen.{env_of}
use Rattle.type_scopes.proofs.words.has_negative.Given as goal

abbrev pub invariant-loop-constant : goal.invariant-loop-constant
invariant-loop-constant l = l.found ≡ has_negative (env_of l.env) (enumerators_of (take l.constant-index l.constants))
