use Rattle.std.proofs.Common.{◌∙◌, sym}
use Rattle.c_terms.proofs.Slots.{is_true, is_false}
use Rattle.c_terms.proofs.Choosing.{thus, holds, fails}
use Rattle.c_terms.proofs.arithmetic.Operands.is_less.Goals as goal

pub returns-then-by_sign-clause-shows : goal.returns-then-by_sign-clause-shows
returns-then-by_sign-clause-shows c = λ s a b h g. is_true _ _ _ s _ _ _ _ (sym c.is_signed-by_sign.ensures ∙ c.if-by_sign.true) (c.less_signed.ensures.shows s _ _ _ h g)

pub returns-else-by_sign-clause-shows : goal.returns-else-by_sign-clause-shows
returns-else-by_sign-clause-shows c = λ s a b h g. is_false _ _ _ s _ _ _ _ (sym c.is_signed-by_sign.ensures ∙ c.if-by_sign.false) (c.less.ensures.shows s _ _ _ h g)

pub returns-then-by_sign-clause-made : goal.returns-then-by_sign-clause-made
returns-then-by_sign-clause-made c = thus _ _ _ _ c.less_signed.ensures.made (holds _ _ _ (sym c.is_signed-by_sign.ensures ∙ c.if-by_sign.true))

pub returns-else-by_sign-clause-made : goal.returns-else-by_sign-clause-made
returns-else-by_sign-clause-made c = thus _ _ _ _ c.less.ensures.made (fails _ _ _ (sym c.is_signed-by_sign.ensures ∙ c.if-by_sign.false))
