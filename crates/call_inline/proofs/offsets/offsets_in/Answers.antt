use Rattle.std.proofs.Common.{rules, ◌<◌, length}
use Rattle.c_graph.specs.declared.graph.Node.TheVariants.{Plain}
use Rattle.call_inline.specs.Sizes.{size_in}
use Rattle.call_inline.proofs.Turning.{offsets_turn}
use Rattle.call_inline.proofs.offsets.offsets_in.Goals as goal

pub loop-node-preserved : goal.loop-node-preserved
loop-node-preserved c =
    let lt : c.loop-node.node-index < length c.args.nodes.now = c.loop-node-test.true in
    offsets_turn (size_in c.args.sizes.now) c.args.nodes.now c.loop-node.node-index Plain c.loop-node.offsets.items _ _ c.loop-node.offset _ c.within.result c.with_copy.result lt c.within.ensures
    (search rules) c.with_copy.ensures (search rules) c.loop-node.invariant
