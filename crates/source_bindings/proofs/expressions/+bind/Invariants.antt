use Rattle.std.proofs.Common.{◌≡◌, take}
use Rattle.c_tree.specs.Tree.{no_words}
use Rattle.c_tree.specs.View.{enumerators_of, words_behind, parts_of}
use Rattle.name_bindings.specs.Bound as bd
use Rattle.type_scopes.specs.Seen.{env_of, scope_of}
use Rattle.source_bindings.proofs.expressions.+bind.Given as goal

-- those so far are bound
abbrev pub invariant-bind_constants-loop-i : goal.invariant-bind_constants-loop-i
invariant-bind_constants-loop-i l = env_of l.env ≡ bd.enumerators l.model (scope_of l.region.scope) l.region.owner (env_of l.initial.env) (enumerators_of (take l.i l.constants))

-- those so far are bound
abbrev pub invariant-bind_words-loop-word : goal.invariant-bind_words-loop-word
invariant-bind_words-loop-word l = env_of l.env ≡ bd.words l.model (scope_of l.region.scope) l.region.owner (env_of l.initial.env) (words_behind no_words (take l.word-index l.words))

-- those so far are bound
abbrev pub invariant-bind_parts-loop-part : goal.invariant-bind_parts-loop-part
invariant-bind_parts-loop-part l = env_of l.env ≡ bd.parts l.model (scope_of l.region.scope) l.region.owner (env_of l.initial.env) (parts_of (take l.part-index l.parts))
