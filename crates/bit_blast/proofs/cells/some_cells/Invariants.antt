use Rattle.std.proofs.Common.{◌≡◌, map, take, drop}
use Rattle.bit_blast.proofs.cells.some_cells.Given as goal

abbrev pub invariant-loop-i : goal.invariant-loop-i
invariant-loop-i l = map (λ c. c.items) l.outs.items ≡ take l.i (drop l.first l.cells)
