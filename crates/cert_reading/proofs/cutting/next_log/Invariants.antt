use Rattle.std.proofs.Common.{◌-◌, ◌≤◌, length}
use Rattle.cert_reading.proofs.cutting.next_log.Given as goal

abbrev pub invariant-loop-at : goal.invariant-loop-at
invariant-loop-at l = l.from ≤ l.at

abbrev pub decreases-loop-at : goal.decreases-loop-at
decreases-loop-at l = length l.bytes - l.at
