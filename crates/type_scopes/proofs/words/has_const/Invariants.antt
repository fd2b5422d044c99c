use Rattle.std.proofs.Common.{◌≡◌, take}
use Rattle.c_tree.specs.Tree.{no_words}
use Rattle.c_tree.specs.View.{words_behind}
use Rattle.c_meaning.specs.Bindings.{has_const}
use Rattle.type_scopes.specs.Seen.{env_of}
use Rattle.type_scopes.proofs.words.has_const.Given as goal

abbrev pub invariant-loop-word : goal.invariant-loop-word
invariant-loop-word l = l.found ≡ has_const (env_of l.env) (words_behind no_words (take l.word-index l.word-items))
