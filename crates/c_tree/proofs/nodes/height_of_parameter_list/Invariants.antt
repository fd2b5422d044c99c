use Rattle.std.proofs.Common.{◌≡◌, max, drop}
use Rattle.c_tree.specs.Highest as most
use Rattle.c_tree.proofs.nodes.height_of_parameter_list.Given as goal

-- the greatest so far and that of what is left
abbrev pub invariant-loop-parameter : goal.invariant-loop-parameter
invariant-loop-parameter l = max l.height (most.highest most.parameter_height (drop l.parameter-index l.parameters)) ≡ most.highest most.parameter_height l.parameters
