use Rattle.std.proofs.Common.{◌≡◌, take}
use Rattle.c_tree.specs.Tree.{no_words}
use Rattle.c_tree.specs.View.{words_behind}
use Rattle.c_meaning.specs.Scope as s
use Rattle.source_bindings.proofs.declarators.has_typedef.Given as goal

abbrev pub invariant-loop-word : goal.invariant-loop-word
invariant-loop-word l = l.found ≡ s.has_typedef (words_behind no_words (take l.word-index l.word-items))
