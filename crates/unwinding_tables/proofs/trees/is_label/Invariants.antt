use Rattle.std.proofs.Common.{take}
use Rattle.reach_tree.specs.Trees.{IsLabel}
use Rattle.unwinding_tables.proofs.trees.is_label.Given as goal

abbrev pub invariant-loop-conjunct : goal.invariant-loop-conjunct
invariant-loop-conjunct l = IsLabel l.terms (take l.conjunct-index l.label)
