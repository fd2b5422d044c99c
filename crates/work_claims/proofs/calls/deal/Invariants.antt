use Rattle.std.proofs.Common.{◌≡◌, ◌+◌, ◌≤◌, [], All, length}
use Rattle.work_claims.specs.Hands.{fresh}
use Rattle.work_claims.specs.Seats.{IsDealt}
use Rattle.work_claims.proofs.calls.deal.Given as goal

abbrev pub invariant-loop-left : goal.invariant-loop-left
invariant-loop-left l =
    (1 ≤ l.left)
    × (length l.claimers.items + l.left ≡ l.workers)
    × All (IsDealt l.shared.table_id l.shared.key.total) l.claimers.items
    × (l.seat.table_id ≡ l.shared.table_id)
    × (l.seat.me ≡ (fresh l.shared.key.total l.left, []))

abbrev pub decreases-loop-left : goal.decreases-loop-left
decreases-loop-left l = l.left
