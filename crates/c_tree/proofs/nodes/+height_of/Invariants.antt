use Rattle.std.proofs.Common.{◌≡◌, max, drop}
use Rattle.c_tree.specs.Highest as most
use Rattle.c_tree.proofs.nodes.+height_of.Given as goal

-- the greatest so far and that of what is left
abbrev pub invariant-height_of_enumerators-loop-constant : goal.invariant-height_of_enumerators-loop-constant
invariant-height_of_enumerators-loop-constant l = max l.height (most.highest most.enumerator_height (drop l.constant-index l.constants)) ≡ most.highest most.enumerator_height l.constants

-- the greatest so far and that of what is left
abbrev pub invariant-height_of_parts-loop-part : goal.invariant-height_of_parts-loop-part
invariant-height_of_parts-loop-part l = max l.height (most.highest most.part_height (drop l.part-index l.parts)) ≡ most.highest most.part_height l.parts

-- the greatest so far and that of what is left
abbrev pub invariant-height_of_words-loop-word : goal.invariant-height_of_words-loop-word
invariant-height_of_words-loop-word l = max l.height (most.highest most.spec_height (drop l.word-index l.words)) ≡ most.highest most.spec_height l.words
