use Rattle.std.proofs.Common.{◌≡◌, ◌≤◌, drop}
use Rattle.bit_blast.specs.Held.{above}
use Rattle.bit_blast.proofs.bits.above_clause.Given as goal

abbrev pub invariant-loop-lit : goal.invariant-loop-lit
invariant-loop-lit l = (above l.fn.next l.clause ≡ above l.free (drop l.lit-index l.clause)) × (l.free ≤ 4294967296)
