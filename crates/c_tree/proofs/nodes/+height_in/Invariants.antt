use Rattle.std.proofs.Common.{◌≡◌, max, drop}
use Rattle.c_tree.specs.Highest as most
use Rattle.c_tree.proofs.nodes.+height_in.Given as goal

-- the greatest so far and that of what is left
abbrev pub invariant-height_of_statements-loop-statement : goal.invariant-height_of_statements-loop-statement
invariant-height_of_statements-loop-statement l = max l.height (most.highest most.statement_height (drop l.statement-index l.statements)) ≡ most.highest most.statement_height l.statements
