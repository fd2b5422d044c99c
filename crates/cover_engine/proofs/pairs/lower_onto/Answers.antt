use Rattle.std.proofs.Common.{◌≤◌, arith, get_or}
use Rattle.cover_engine.proofs.Onto.{counted_there, lower_there, read_at}
use Rattle.cover_engine.proofs.pairs.lower_onto.Goals as goal

pub index_mut-requires : goal.index_mut-requires
index_mut-requires c =
    let one = lower_there c.args.counts.now.items c.loop-pair.counts.items c.args.pairs.now c.loop-pair.pair-index (record { 0 = 0 }, record { 0 = 0 }) c.loop-pair-test.true c.requires c.loop-pair.invariant in
    omega (arith, counted_there c.loop-pair.counts.items (get_or c.args.pairs.now c.loop-pair.pair-index (record { 0 = 0 }, record { 0 = 0 })).1.0 one)

pub overflow_sub-index_mut : goal.overflow_sub-index_mut
overflow_sub-index_mut c =
    let one = lower_there c.args.counts.now.items c.loop-pair.counts.items c.args.pairs.now c.loop-pair.pair-index (record { 0 = 0 }, record { 0 = 0 }) c.loop-pair-test.true c.requires c.loop-pair.invariant in
    let there = counted_there c.loop-pair.counts.items (get_or c.args.pairs.now c.loop-pair.pair-index (record { 0 = 0 }, record { 0 = 0 })).1.0 one in
    omega (arith, one, read_at c.loop-pair.counts.items (get_or c.args.pairs.now c.loop-pair.pair-index (record { 0 = 0 }, record { 0 = 0 })).1.0 c.index_mut.result.now there c.index_mut.ensures.value)
