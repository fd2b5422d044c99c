use Rattle.reach_tree.proofs.Growth.{leaves-more, target-of, fresh-at}
use Rattle.reach_tree.proofs.tree.new_leaves.Goals as goal

pub loop-out-preserved : goal.loop-out-preserved
loop-out-preserved c =
    leaves-more c.args.edges.now c.args.v c.args.outs.now c.loop-out.leaves.items c.push.new.self.items _ c.loop-out.out-index _ _ c.loop-out-test.true c.in_ok-push.ensures.items
    (fresh-at _ _ _ _ _ c.fresh_vertex.ensures (target-of c.args.edges.now _ _ (c.requires _ _ c.loop-out-test.true))) c.loop-out.invariant
