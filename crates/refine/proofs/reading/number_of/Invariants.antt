use Rattle.std.proofs.Common.{◌≡◌, ◌≤◌, length, drop}
use Rattle.prop.specs.Trues.{listed}
use Rattle.bit_gates.specs.Net.{number}
use Rattle.refine.proofs.reading.number_of.Given as goal

abbrev pub invariant-loop-left : goal.invariant-loop-left
invariant-loop-left l = (l.left ≤ length l.bits) × (l.number ≡ number (listed l.found) (drop l.left l.bits))

abbrev pub decreases-loop-left : goal.decreases-loop-left
decreases-loop-left l = l.left
