use Rattle.std.proofs.Common.{◌∙◌, arith}
use Rattle.cover_engine.proofs.Walking.{grown_enough, walk_done, walk_more, walk_stops}
use Rattle.cover_engine.proofs.covering.below_of.Goals as goal
use Rattle.cover_engine.proofs.covering.below_of.Goals.{then-loop-left-test+else-at-len, else-loop-left-test}

pub loop-left-preserved : goal.loop-left-preserved
loop-left-preserved c = (
  grown_enough c.loop-left.found.items c.push_children.new.numbers.items _ c.loop-left.at (omega arith) c.in_ok-push_children.ensures,
  walk_more c.args.vertices.now c.loop-left.found.items c.push_children.new.numbers.items _ c.loop-left.at c.loop-left.left c.index-next.result.now c.loop-left-test.true (omega arith) c.index-next.ensures c.in_ok-push_children.ensures c.loop-left.invariant.1,
)

pub returns : goal.returns
returns c = c.truncate.ensures.items ∙ elim c.loop-left-test.branch [
  | then-loop-left-test+else-at-len w ↦ walk_done c.args.vertices.now c.loop-left.found.items _ c.loop-left.at c.loop-left.left (omega arith) c.loop-left.invariant.1
  | else-loop-left-test w ↦ walk_stops c.args.vertices.now c.loop-left.found.items _ c.loop-left.at c.loop-left.left (omega arith) c.loop-left.invariant.1
]
