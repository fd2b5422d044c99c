use Rattle.std.proofs.Common.{◌≡◌, ◌-◌, ◌++◌}
use Rattle.bit_words.specs.Words.{copies_of}
use Rattle.bit_words.proofs.words.copies.Given as goal

abbrev pub invariant-loop-i : goal.invariant-loop-i
invariant-loop-i l = copies_of l.lit l.count ≡ l.outs.items ++ copies_of l.lit (l.count - l._i)
