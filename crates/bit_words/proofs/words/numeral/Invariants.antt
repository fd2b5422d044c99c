use Rattle.std.proofs.Common.{◌≡◌, ◌-◌, ◌++◌}
use Rattle.bit_words.specs.Words.{numeral_of}
use Rattle.bit_words.proofs.words.numeral.Given as goal

abbrev pub invariant-loop-i : goal.invariant-loop-i
invariant-loop-i l = numeral_of l.one l.width l.value ≡ l.outs.items ++ numeral_of l.one (l.width - l._i) l.rest
