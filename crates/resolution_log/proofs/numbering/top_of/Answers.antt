use Rattle.std.proofs.Common.{ℕ, arith}
use Rattle.resolution_log.proofs.Dense.{top-more}
use Rattle.resolution_log.proofs.numbering.top_of.Goals.{then-at-top, else-at-top}
use Rattle.resolution_log.proofs.numbering.top_of.Goals as goal

pub loop-var-preserved : goal.loop-var-preserved
loop-var-preserved c =
    elim c.if-at-top.branch [
      | then-at-top w ↦ top-more c.args.vars.now c.loop-var.var-index c.loop-var.top c.if-at-top.top c.loop-var-test.true c.loop-var.invariant (omega (arith, w.top-is, w.if-at-top.true)) (omega (arith, w.top-is))
      | else-at-top w ↦ top-more c.args.vars.now c.loop-var.var-index c.loop-var.top c.if-at-top.top c.loop-var-test.true c.loop-var.invariant (omega (arith, w.top-is)) (omega (arith, w.top-is, w.if-at-top.false))
    ]
