use Rattle.std.proofs.Common.{◌<◌, length}
use Rattle.call_inline.specs.Copying.{lists_of}
use Rattle.call_inline.proofs.Turning.{copies_turn}
use Rattle.call_inline.proofs.edges.edges_of_all.Goals as goal

pub loop-number-preserved : goal.loop-number-preserved
loop-number-preserved c =
    let lt : c.loop-number.number < length c.args.copies.now = c.loop-number-test.true in
    copies_turn c.args.graphs.now (lists_of c.args.offsets.now) c.args.copies.now c.loop-number.number _ c.loop-number.edges.items c.push_copy.new.edges.items _ lt c.in_ok-push_copy.ensures c.loop-number.invariant
