use Rattle.std.proofs.Common.{◌∙◌, sym, ap}
use Rattle.c_terms.specs.Made as made
use Rattle.c_terms.proofs.Finding.{found-none, found-one}
use Rattle.c_terms.proofs.Choosing.{holds, fails}
use Rattle.c_terms.proofs.arithmetic.Operands.difference_test.Goals as goal

pub returns-then-not-is_signed-clause-shows : goal.returns-then-not-is_signed-clause-shows
returns-then-not-is_signed-clause-shows c = λ s a b x h. found-none _ s _ _ (sym c.is_signed.ensures ∙ c.if-not-is_signed.true)

pub returns-clause-shows : goal.returns-clause-shows
returns-clause-shows c = λ s a b x h. found-one _ _ s _ _ _ _ (sym c.is_signed.ensures ∙ c.if-not-is_signed.false) (c.in_ok-when.ensures.shows s a b x h)

pub returns-then-not-is_signed-clause-made : goal.returns-then-not-is_signed-clause-made
returns-then-not-is_signed-clause-made c = fails _ _ _ (sym c.is_signed.ensures ∙ c.if-not-is_signed.true)

pub returns-clause-made : goal.returns-clause-made
returns-clause-made c = ap made.overflow_of c.in_ok-when.ensures.made ∙ holds _ _ _ (sym c.is_signed.ensures ∙ c.if-not-is_signed.false)
