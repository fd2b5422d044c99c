use Rattle.call_order.specs.Seen.{graph_of}
use Rattle.call_order.proofs.Confirming.{expanded_reached}
use Rattle.call_order.proofs.search.reached.Goals as goal

pub loop-call-preserved : goal.loop-call-preserved
loop-call-preserved c =
    expanded_reached (graph_of c.args.calls.now) c.args.start c.in-Some.function c.loop-call.search.marks.items c.expand.new.search.marks.items c.loop-call.invariant c.in_ok-expand-in-Some.ensures
