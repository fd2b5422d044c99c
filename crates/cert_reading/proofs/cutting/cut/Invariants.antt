use Rattle.std.proofs.Common.{◌≡◌, ◌-◌, ◌≤◌, All, length}
use Rattle.cert_reading.specs.Portions.{IsWithin}
use Rattle.cert_reading.proofs.cutting.cut.Given as goal

abbrev pub invariant-loop-log : goal.invariant-loop-log
invariant-loop-log l = (l.open.from ≤ l.at) × (l.at ≤ length l.bytes) × (l.open.to ≡ length l.bytes) × All (IsWithin l.bytes) l.stretches.items × (length l.stretches.items ≤ l.before_last)

abbrev pub decreases-loop-log : goal.decreases-loop-log
decreases-loop-log l = length l.bytes - l.at
