use Rattle.std.proofs.Common.{◌≡◌, ◌+◌, ◌++◌, length, drop}
use Rattle.prop.specs.Pieces.{pieces, Rising}
use Rattle.bit_blast.specs.Held.{fresh_cells, sum_of}
use Rattle.bit_blast.proofs.cells.push_cells.Given as goal

abbrev pub invariant-loop-i : goal.invariant-loop-i
invariant-loop-i l =
    Rising 0 l.ends.items (length l.lits.items)
    × (pieces 0 l.initial.ends.items l.initial.lits.items ++ fresh_cells l.fn.first l.widths ≡ pieces 0 l.ends.items l.lits.items ++ fresh_cells l.next (drop l.i l.widths))
    × (l.fn.first + sum_of l.widths ≡ l.next + sum_of (drop l.i l.widths))
