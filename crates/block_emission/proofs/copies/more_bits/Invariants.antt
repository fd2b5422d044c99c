use Rattle.std.proofs.Common.{◌≡◌, ◌++◌, replicate}
use Rattle.block_emission.proofs.copies.more_bits.Given as goal

abbrev pub invariant-loop-number : goal.invariant-loop-number
invariant-loop-number l = l.widths.items ≡ l.fn.widths.items ++ replicate l._number 1
