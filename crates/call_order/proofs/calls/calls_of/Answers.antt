use Rattle.std.proofs.Common.{arith}
use Rattle.call_order.specs.Seen.{calls}
use Rattle.call_order.proofs.Arms.{of_step}
use Rattle.call_order.proofs.calls.calls_of.Goals as goal

pub loop-value-preserved : goal.loop-value-preserved
loop-value-preserved c =
    of_step c.args.all.now c.loop-value.value-index c.value-item.result (calls c.loop-value.found.items) (calls c.add_calls.new.found.items)
    (omega arith) c.value-item.is c.loop-value.invariant c.in_ok-add_calls.ensures
