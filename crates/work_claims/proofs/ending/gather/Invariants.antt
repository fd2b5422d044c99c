use Rattle.std.proofs.Common.{◌≡◌, ◌<◌, [], All}
use Rattle.work_claims.specs.Seats.{IsOfTable, merged}
use Rattle.work_claims.proofs.ending.gather.Given as goal

abbrev pub invariant-loop-other : goal.invariant-loop-other
invariant-loop-other l =
    (l.seat.table_id ≡ l.shared.table_id)
    × (l.seat.me.1 ≡ [])
    × (0 < l.seat.me.0.parts)
    × All (IsOfTable l.shared.table_id) l.others.items
    × (merged l.seat.me.0 l.others.items ≡ merged l.initial.seat.me.0 l.initial.others.items)

abbrev pub decreases-loop-other : goal.decreases-loop-other
decreases-loop-other l = goal.left-loop-other l
