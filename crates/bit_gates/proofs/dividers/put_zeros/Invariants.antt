use Rattle.std.proofs.Common.{◌≡◌, drop, ◌++◌, length}
use Rattle.bit_gates.specs.Quotients.{zeros}
use Rattle.bit_gates.proofs.dividers.put_zeros.Given as goal

abbrev pub invariant-loop-i : goal.invariant-loop-i
invariant-loop-i l = (zeros l.z l.b ≡ l.outs.items ++ zeros l.z (drop l.i l.b)) × (length l.outs.items ≡ l.i)
