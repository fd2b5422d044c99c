use Rattle.std.proofs.Common.{◌↔◌, drop}
use Rattle.prop.specs.Logic.{LitsBelow}
use Rattle.bit_gates.proofs.emission.are_below.Given as goal

abbrev pub invariant-loop-l : goal.invariant-loop-l
invariant-loop-l l = LitsBelow l.next l.lits ↔ LitsBelow l.next (drop l.l-index l.lits)
