use Rattle.std.proofs.Common.{◌<◌, length}
use Rattle.call_inline.specs.Copying.{calls_of, lists_of}
use Rattle.call_inline.proofs.Turning.{each_turn}
use Rattle.call_inline.proofs.copies.push_calls.Goals as goal

pub loop-at-preserved : goal.loop-at-preserved
loop-at-preserved c =
    let lt : c.loop-at.at < length c.nodes_of-nodes.result.now = c.loop-at-test.true in
    each_turn (calls_of (lists_of c.args.offsets.now) c.args.copied) c.nodes_of-nodes.result.now c.loop-at.at _ c.loop-at.copies.items c.push_call.new.copies.items _ lt c.in_ok-push_call.ensures c.loop-at.invariant
