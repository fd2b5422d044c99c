use Rattle.refine.proofs.Pairs.{closed_implies, subset_implies}
use Rattle.refine.proofs.settling.decide.Goals.{then-is_among-via-then-is_among, then-is_among-via-else-is_among+then-is_closed}
use Rattle.refine.proofs.settling.decide.Goals as goal

pub returns-then-is_among-clause-decided : goal.returns-then-is_among-clause-decided
returns-then-is_among-clause-decided c = elim c.then-is_among.branch [
  | then-is_among-via-then-is_among w ↦ subset_implies c.args.terms.now c.args.left.now c.args.right.now (c.is_among.ensures w.if-is_among.true)
  | then-is_among-via-else-is_among+then-is_closed w ↦
      closed_implies c.args.terms.now c.args.left.now c.args.right.now c.cells-cells.ensures.table (w.is_closed.ensures w.if-is_closed.true)
]
