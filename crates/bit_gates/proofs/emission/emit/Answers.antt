use Rattle.std.proofs.Common.{arith}
use Rattle.bit_gates.proofs.Cuts.{net_cut, net_step}
use Rattle.bit_gates.proofs.emission.emit.Goals as goal

pub returns-in-Err : goal.returns-in-Err
returns-in-Err c =
    rw (← c.deref-def-items.ensures.value)
    (net_cut c.in-Err.end c.args.clauses.now c.emit_def.new.clauses c.loop-def.clauses c.args.net.now.start
    c.deref-def-items.result.now c.loop-def.def-index _ c.loop-def-test.true c.loop-def.invariant.1
    (rw c.loop-def.invariant.0 at c.in-Err.ensures))

pub loop-def-preserved : goal.loop-def-preserved
loop-def-preserved c = (
  omega (arith, c.loop-def.invariant.0),
  net_step c.args.clauses.now c.emit_def.new.clauses c.loop-def.clauses c.args.net.now.start
      c.deref-def-items.result.now c.loop-def.def-index _ c.loop-def-test.true c.loop-def.invariant.1
      (rw c.loop-def.invariant.0 at c.in_default.ensures),
)
