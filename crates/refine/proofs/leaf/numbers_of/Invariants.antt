use Rattle.std.proofs.Common.{◌≡◌, take, map}
use Rattle.term_copy.specs.Copies.{number_in}
use Rattle.refine.proofs.leaf.numbers_of.Given as goal

abbrev pub invariant-loop-term : goal.invariant-loop-term
invariant-loop-term l = l.numbers.items ≡ map (number_in l.to) (take l.term-index l.terms)
