use Rattle.cover_engine.proofs.Walking.{lower_room}
use Rattle.cover_engine.proofs.covering.lower.Goals as goal

pub overflow_sub-index_mut : goal.overflow_sub-index_mut
overflow_sub-index_mut c =
    lower_room c.args.counts.now.items c.loop-number.counts.items c.args.numbers.now c.loop-number.number-index c.index_mut.result.now c.loop-number-test.true c.requires.inside c.requires.enough c.loop-number.invariant.0 c.loop-number.invariant.1 c.index_mut.ensures.value
