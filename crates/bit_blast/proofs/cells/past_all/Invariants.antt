use Rattle.std.proofs.Common.{◌≡◌, ◌+◌, drop}
use Rattle.bit_blast.specs.Held.{sum_of}
use Rattle.bit_blast.proofs.cells.past_all.Given as goal

abbrev pub invariant-loop-i : goal.invariant-loop-i
invariant-loop-i l = l.fn.first + sum_of l.widths ≡ l.next + sum_of (drop l.i l.widths)
