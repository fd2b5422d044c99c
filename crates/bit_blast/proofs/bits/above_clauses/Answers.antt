use Rattle.bit_blast.specs.Held.{above_all}
use Rattle.bit_blast.proofs.Steps.{above_step}
use Rattle.bit_blast.proofs.bits.above_clauses.Goals as goal

pub loop-number-preserved : goal.loop-number-preserved
loop-number-preserved c = (
  above_step c.args.clauses.now c.loop-number.number c.loop-number.free c.above_clause-free.result (above_all 0 c.args.clauses.now) c.clause.result.now
      c.clause.ensures c.loop-number.invariant.0 c.above_clause-free.ensures.value,
  c.above_clause-free.ensures.within,
)
