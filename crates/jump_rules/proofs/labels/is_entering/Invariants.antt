use Rattle.jump_rules.proofs.Naming.{Looks, left}
use Rattle.jump_rules.proofs.labels.is_entering.Given as goal

-- the labels of the name from this place back are still to be looked at
abbrev pub invariant-loop-at : goal.invariant-loop-at
invariant-loop-at l = Looks l.named.labels.now l.goto l.at

abbrev pub decreases-loop-at : goal.decreases-loop-at
decreases-loop-at l = left l.at
