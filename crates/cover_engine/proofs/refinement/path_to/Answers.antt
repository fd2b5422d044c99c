use Rattle.cover_engine.proofs.RefineLemmas.{path-more}
use Rattle.cover_engine.proofs.refinement.path_to.Goals as goal

pub loop-left-preserved : goal.loop-left-preserved
loop-left-preserved c =
    path-more c.args.vertices.now c.loop-left.path.items c.push.new.self.items _ c.loop-left.left c.loop-left.at c.in-Some.parent c.loop-left-test.true c.in-Some.ensures c.in_ok-push.ensures.items c.loop-left.invariant
