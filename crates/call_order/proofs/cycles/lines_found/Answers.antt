use Rattle.std.proofs.Common.{arith}
use Rattle.first_broken.specs.Seen.{found_of}
use Rattle.call_order.specs.Seen.{graph_of}
use Rattle.call_order.proofs.Arms.{all_step, graph_length}
use Rattle.call_order.proofs.cycles.lines_found.Goals as goal

pub loop-i-preserved : goal.loop-i-preserved
loop-i-preserved c =
    all_step (graph_of c.args.calls.now) c.args.calls.now c.loop-i.i c.index-calls-i.result c.in_ok-marks.marks.items c.deref-in-loop-i.result.now c.deref.result.now (found_of c.loop-i.all) (found_of c.cycle_lines.result) (found_of c.both-all.result)
    (omega arith) c.index-calls-i.is (graph_length c.args.calls.now) c.loop-i.invariant c.in_ok-marks.ensures c.deref-in-loop-i.ensures.value c.deref.ensures.value c.cycle_lines.ensures c.both-all.ensures
