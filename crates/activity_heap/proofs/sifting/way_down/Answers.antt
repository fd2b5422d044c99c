use Rattle.std.proofs.Common.{arith, ◌<◌, ◌+◌, ◌*◌, length}
use Rattle.activity_heap.proofs.PlaceLaws.{below_at}
use Rattle.activity_heap.proofs.sifting.way_down.Goals as goal

pub is_ahead-requires-clause-one : goal.is_ahead-requires-clause-one
is_ahead-requires-clause-one c = below_at (length c.args.activities.now) c.args.heap.now (2 * c.args.at + 1 + 1) c.requires.below (omega arith)

pub is_ahead-requires-clause-other : goal.is_ahead-requires-clause-other
is_ahead-requires-clause-other c = below_at (length c.args.activities.now) c.args.heap.now (2 * c.args.at + 1) c.requires.below (omega arith)

pub is_ahead-requires-then-is_ahead-clause-one : goal.is_ahead-requires-then-is_ahead-clause-one
is_ahead-requires-then-is_ahead-clause-one c = below_at (length c.args.activities.now) c.args.heap.now (2 * c.args.at + 1 + 1) c.requires.below (omega arith)

pub is_ahead-requires-2-clause-one : goal.is_ahead-requires-2-clause-one
is_ahead-requires-2-clause-one c = below_at (length c.args.activities.now) c.args.heap.now (2 * c.args.at + 1) c.requires.below (omega arith)
