use Rattle.std.proofs.Common.{◌≡◌, ◌≤◌, drop}
use Rattle.bit_blast.specs.Held.{above_all}
use Rattle.bit_blast.proofs.bits.above_clauses.Given as goal

abbrev pub invariant-loop-number : goal.invariant-loop-number
invariant-loop-number l = (above_all 0 l.clauses ≡ above_all l.free (drop l.number l.clauses)) × (l.free ≤ 4294967296)
