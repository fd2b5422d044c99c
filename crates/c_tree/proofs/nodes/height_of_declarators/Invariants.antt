use Rattle.std.proofs.Common.{◌≡◌, max, drop}
use Rattle.c_tree.specs.Highest as most
use Rattle.c_tree.proofs.nodes.height_of_declarators.Given as goal

-- the greatest so far and that of what is left
abbrev pub invariant-loop-declarator : goal.invariant-loop-declarator
invariant-loop-declarator l = max l.height (most.highest most.declarator_height (drop l.declarator-index l.declarators)) ≡ most.highest most.declarator_height l.declarators
