use Rattle.std.proofs.Common.{◌≡◌, take}
use Rattle.c_tree.specs.Tree.{no_words}
use Rattle.c_tree.specs.View.{enumerators_of, words_behind, parts_of}
use Rattle.first_broken.specs.Seen.{found_of}
use Rattle.type_scopes.specs.Seen.{env_of}
use Rattle.typing_rules.specs.Summed as s
use Rattle.typing_rules.proofs.expressions.+expression.Given as goal

-- the sum of those so far
abbrev pub invariant-enumerators-loop-constant : goal.invariant-enumerators-loop-constant
invariant-enumerators-loop-constant l = found_of l.all ≡ s.found_of_enumerators (env_of l.env) l.model l.bodies l.again (enumerators_of (take l.constant-index l.constants))

-- the sum of those so far
abbrev pub invariant-words-loop-one : goal.invariant-words-loop-one
invariant-words-loop-one l = found_of l.all ≡ s.found_of_words (env_of l.env) l.model l.bodies l.again (words_behind no_words (take l.one-index l.words))

-- the sum of those so far
abbrev pub invariant-parts-loop-part : goal.invariant-parts-loop-part
invariant-parts-loop-part l = found_of l.all ≡ s.found_of_parts (env_of l.env) l.model l.bodies l.again (parts_of (take l.part-index l.parts))
