use Rattle.std.proofs.Common.{◌≡◌, ◌+◌, ◌-◌, ◌++◌}
use Rattle.bit_blast.specs.Held.{fresh_lits}
use Rattle.bit_blast.proofs.cells.push_fresh.Given as goal

abbrev pub invariant-loop-i : goal.invariant-loop-i
invariant-loop-i l = l.initial.lits.items ++ fresh_lits l.next l.width ≡ l.lits.items ++ fresh_lits (l.next + l.i) (l.width - l.i)
