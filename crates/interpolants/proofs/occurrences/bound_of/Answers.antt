use Rattle.interpolants.proofs.Ending.{clauses-over}
use Rattle.interpolants.proofs.occurrences.bound_of.Goals as goal

pub loop-number-preserved : goal.loop-number-preserved
loop-number-preserved c =
    λ x h. clauses-over c.args.clauses.now c.loop-number.number c.loop-number.bound c.raised-bound.result c.clause.result.now c.clause.ensures c.raised-bound.ensures.rises c.raised-bound.ensures.over x (c.loop-number.invariant x h)
