use Rattle.std.proofs.Common.{◌≡◌, [], drop, true}
use Rattle.block_emission.specs.Putting.{truths_of}
use Rattle.block_emission.specs.Blocking as made
use Rattle.block_emission.proofs.copies.copied.Given as goal

abbrev pub invariant-loop-number : goal.invariant-loop-number
invariant-loop-number l = made.append_all l.truths (drop l.number l.terms.terms) ≡ made.append_all (truths_of (record { cells = l.fn.widths.items; terms = [] }) true) l.terms.terms
