use Rattle.resolution_log.proofs.Dense.{Found}
use Rattle.resolution_log.proofs.numbering.marked.Given as goal

abbrev pub invariant-loop-number : goal.invariant-loop-number
invariant-loop-number l = Found l.marks l.number l.vars.items
