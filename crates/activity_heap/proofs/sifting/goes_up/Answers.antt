use Rattle.std.proofs.Common.{arith, ◌<◌, ◌-◌, ◌/◌, length}
use Rattle.activity_heap.proofs.PlaceLaws.{below_at}
use Rattle.activity_heap.proofs.sifting.goes_up.Goals as goal

pub is_ahead-requires-clause-other : goal.is_ahead-requires-clause-other
is_ahead-requires-clause-other c = below_at (length c.args.activities.now) c.args.heap.now ((c.args.at - 1) / 2) c.requires.below (omega arith)
