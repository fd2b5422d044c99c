use Rattle.std.proofs.Common.{◌≡◌, ◌++◌, replicate}
use Rattle.block_emission.specs.Blocking as made
use Rattle.block_emission.proofs.copies.more_saved.Given as goal

abbrev pub invariant-loop-number : goal.invariant-loop-number
invariant-loop-number l = l.cells.items ≡ l.fn.cells.items ++ replicate l._number made.saved_cell
