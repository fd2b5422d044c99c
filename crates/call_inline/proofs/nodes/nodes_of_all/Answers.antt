use Rattle.std.proofs.Common.{rules, ◌<◌, length}
use Rattle.call_inline.specs.Copying.{lists_of}
use Rattle.call_inline.proofs.Turning.{written_turn}
use Rattle.call_inline.proofs.nodes.nodes_of_all.Goals as goal

pub loop-number-preserved : goal.loop-number-preserved
loop-number-preserved c =
    let lt : c.loop-number.number < length c.args.copies.now = search rules in
    written_turn c.args.graphs.now (lists_of c.args.offsets.now) c.args.copies.now c.loop-number.number _ c.loop-number.nodes.items c.set_nodes.new.nodes.items _ lt c.set_nodes.ensures c.loop-number.invariant
