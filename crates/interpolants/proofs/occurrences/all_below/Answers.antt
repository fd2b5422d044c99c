use Rattle.std.proofs.Common.{arith}
use Rattle.interpolants.proofs.Ending.{itself-listed}
use Rattle.interpolants.proofs.occurrences.all_below.Goals as goal

pub returns-clause-listed : goal.returns-clause-listed
returns-clause-listed c =
    λ x lt. itself-listed c.loop-var.vars.items c.loop-var.var x c.loop-var.invariant.long c.loop-var.invariant.same (omega (arith, lt, c.loop-var-test.false))
