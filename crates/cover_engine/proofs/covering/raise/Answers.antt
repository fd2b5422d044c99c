use Rattle.std.proofs.Common.{arith}
use Rattle.cover_engine.proofs.Walking.{raise_room}
use Rattle.cover_engine.proofs.covering.raise.Goals as goal

pub overflow_add-index_mut : goal.overflow_add-index_mut
overflow_add-index_mut c =
    let room = raise_room c.args.counts.now.items c.loop-number.counts.items c.args.numbers.now c.loop-number.number-index c.index_mut.result.now c.loop-number-test.true c.requires.inside c.requires.room c.loop-number.invariant.0 c.loop-number.invariant.1 c.index_mut.ensures.value in
    omega arith
