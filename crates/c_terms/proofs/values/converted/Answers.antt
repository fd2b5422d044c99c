use Rattle.std.proofs.Common.{◌∙◌, sym}
use Rattle.c_terms.proofs.Slots.{is_true, is_false}
use Rattle.c_terms.proofs.Choosing.{thus, holds, fails}
use Rattle.c_terms.proofs.values.converted.Goals as goal

pub returns-then-is_bool-clause-shows : goal.returns-then-is_bool-clause-shows
returns-then-is_bool-clause-shows c = λ s a h. is_true _ _ _ s _ _ _ _ (sym c.is_bool.ensures ∙ c.if-is_bool.true) (c.nonzero.ensures.shows s a h)

pub returns-else-is_bool-clause-shows : goal.returns-else-is_bool-clause-shows
returns-else-is_bool-clause-shows c = λ s a h. is_false _ _ _ s _ _ _ _ (sym c.is_bool.ensures ∙ c.if-is_bool.false) (c.cut.ensures.shows s a h)

pub returns-then-is_bool-clause-made : goal.returns-then-is_bool-clause-made
returns-then-is_bool-clause-made c = thus _ _ _ _ c.nonzero.ensures.made (holds _ _ _ (sym c.is_bool.ensures ∙ c.if-is_bool.true))

pub returns-else-is_bool-clause-made : goal.returns-else-is_bool-clause-made
returns-else-is_bool-clause-made c = thus _ _ _ _ c.cut.ensures.made (fails _ _ _ (sym c.is_bool.ensures ∙ c.if-is_bool.false))
