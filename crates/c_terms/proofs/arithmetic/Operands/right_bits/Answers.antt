use Rattle.std.proofs.Common.{◌∙◌, sym}
use Rattle.c_terms.proofs.Slots.{is_true, is_false}
use Rattle.c_terms.proofs.Choosing.{thus, holds, fails}
use Rattle.c_terms.proofs.arithmetic.Operands.right_bits.Goals as goal

pub returns-then-is_signed-clause-shows : goal.returns-then-is_signed-clause-shows
returns-then-is_signed-clause-shows c = λ s a b x h. is_true _ _ _ s _ _ _ _ (sym c.is_signed.ensures ∙ c.if-is_signed.true) (c.shift_signed.ensures.shows s _ _ _ h.left_shows h.right_shows)

pub returns-else-is_signed-clause-shows : goal.returns-else-is_signed-clause-shows
returns-else-is_signed-clause-shows c = λ s a b x h. is_false _ _ _ s _ _ _ _ (sym c.is_signed.ensures ∙ c.if-is_signed.false) (c.shift_right.ensures.shows s _ _ _ h.left_shows h.right_shows)

pub returns-then-is_signed-clause-made : goal.returns-then-is_signed-clause-made
returns-then-is_signed-clause-made c = thus _ _ _ _ c.shift_signed.ensures.made (holds _ _ _ (sym c.is_signed.ensures ∙ c.if-is_signed.true))

pub returns-else-is_signed-clause-made : goal.returns-else-is_signed-clause-made
returns-else-is_signed-clause-made c = thus _ _ _ _ c.shift_right.ensures.made (fails _ _ _ (sym c.is_signed.ensures ∙ c.if-is_signed.false))
