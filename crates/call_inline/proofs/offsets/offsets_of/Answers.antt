use Rattle.std.proofs.Common.{ap, ◌∙◌}
use Rattle.call_inline.specs.Copying.{offsets_among}
use Rattle.call_inline.specs.Sizes.{size_in}
use Rattle.call_inline.proofs.Turning.{lists_turn}
use Rattle.call_inline.proofs.offsets.offsets_of.Goals as goal

pub loop-graph-preserved : goal.loop-graph-preserved
loop-graph-preserved c =
    let size = size_in c.args.sizes.now in
    lists_turn size c.args.graphs.now c.loop-graph.graph-index c.graph-item.result c.loop-graph.all.items c.push.new.self.items c.in_ok-offsets_in.field-0 _ c.loop-graph-test.true c.graph-item.is
    c.in_ok-push.ensures.items (c.in_ok-offsets_in.ensures ∙ ap (offsets_among size 0) c.nodes.ensures) c.loop-graph.invariant
