use Rattle.std.proofs.Common.{◌≡◌, take}
use Rattle.c_tree.specs.Tree.{no_words}
use Rattle.c_tree.specs.View.{words_behind}
use Rattle.c_meaning.specs.Bindings.{typing_of}
use Rattle.type_scopes.proofs.words.typing_of.Given as goal

abbrev pub invariant-loop-word : goal.invariant-loop-word
invariant-loop-word l = l.typing ≡ typing_of (words_behind no_words (take l.word-index l.words))
