use Rattle.std.proofs.Common.{◌<◌, ◌∙◌, ap, length}
use Rattle.call_inline.specs.Copying.{lists_of, moved}
use Rattle.call_inline.proofs.Turning.{moved_turn}
use Rattle.call_inline.proofs.edges.push_moved.Goals as goal

pub loop-number-preserved : goal.loop-number-preserved
loop-number-preserved c =
    let o = (lists_of c.args.offsets.now) in
    let lt : c.loop-number.number < length c.edges_of-own.result.now = c.loop-number-test.true in
    moved_turn o c.args.copied c.edges_of-own.result.now c.loop-number.number c.index-own-number.result c.in_ok-edge.edge c.loop-number.edges.items c.push.new.self.items _ lt
    c.in_ok-push.ensures.items (c.in_ok-edge.ensures ∙ ap (moved o c.args.copied) c.index-own-number.is) c.loop-number.invariant
