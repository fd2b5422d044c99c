use Rattle.std.proofs.Common.{◌≡◌, take}
use Rattle.c_tree.specs.Tree.{no_words}
use Rattle.c_tree.specs.View.{words_behind}
use Rattle.c_meaning.specs.Bindings.{named_in}
use Rattle.type_scopes.specs.Seen.{env_of}
use Rattle.type_scopes.proofs.words.named_in.Given as goal

abbrev pub invariant-loop-word : goal.invariant-loop-word
invariant-loop-word l = l.kind ≡ named_in (env_of l.env) (words_behind no_words (take l.word-index l.words))
