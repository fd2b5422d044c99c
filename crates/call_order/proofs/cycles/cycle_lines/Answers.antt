use Rattle.std.proofs.Common.{arith, refl}
use Rattle.first_broken.specs.Seen.{found_of}
use Rattle.call_order.proofs.Arms.{lines_step}
use Rattle.call_order.proofs.cycles.cycle_lines.Goals as goal

pub loop-call-preserved : goal.loop-call-preserved
loop-call-preserved c =
    lines_step c.args.marks.now c.args.calls.now c.loop-call.call-index _ c.is_marked-test.result _ (found_of c.loop-call.all) (found_of c.line.result) (found_of c.both-all.result)
    (omega arith) c.loop-call.invariant c.is_marked-test.ensures refl c.line.ensures c.both-all.ensures
