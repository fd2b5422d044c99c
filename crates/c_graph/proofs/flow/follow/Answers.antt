use Rattle.c_graph.proofs.Chaining.{follow_more}
use Rattle.c_graph.proofs.flow.follow.Goals as goal

pub loop-left-preserved : goal.loop-left-preserved
loop-left-preserved c =
    follow_more c.args.next.now c.loop-left.found.items c.push.new.self.items _ c.loop-left.left c.loop-left.at c.loop-left-test.true c.if-at-next.true c.in_ok-push.ensures.items c.loop-left.invariant
