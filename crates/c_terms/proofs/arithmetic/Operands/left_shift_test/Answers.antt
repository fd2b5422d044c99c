use Rattle.std.proofs.Common.{ap}
use Rattle.c_terms.specs.Made as made
use Rattle.c_terms.proofs.Finding.{found-always}
use Rattle.c_terms.proofs.arithmetic.Operands.left_shift_test.Goals as goal

pub returns-clause-shows : goal.returns-clause-shows
returns-clause-shows c = λ s a b x h. found-always _ _ s _ _ _ (c.in_ok-when.ensures.shows s a b x h)

pub returns-clause-made : goal.returns-clause-made
returns-clause-made c = ap made.shift_of c.in_ok-when.ensures.made
