use Rattle.bit_blast.specs.Held.{IsOver}
use Rattle.gate_tables.proofs.chains.literals_after.Given as goal

abbrev pub invariant-loop-i : goal.invariant-loop-i
invariant-loop-i l = IsOver l.terms l.bits
