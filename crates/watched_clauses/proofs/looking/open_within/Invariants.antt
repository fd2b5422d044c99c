use Rattle.watched_clauses.specs.Judge.{AllClosed}
use Rattle.watched_clauses.proofs.looking.open_within.Given as goal

abbrev pub invariant-loop-at : goal.invariant-loop-at
invariant-loop-at l = AllClosed l.trail.truth.items l.other l.row l.from l.at
