use Rattle.std.proofs.Common.{◌∙◌, sym, refl}
use Rattle.c_terms.proofs.Putting.{slot-width}
use Rattle.c_terms.proofs.Slots.{widen_whole, widen_signed, widen_unsigned, width_most}
use Rattle.c_terms.proofs.Choosing.{thus, widen-whole, widen-signed, widen-unsigned}
use Rattle.c_terms.proofs.values.widen.Goals as goal

pub returns-then-width-ge-SLOT_WIDTH-clause-shows : goal.returns-then-width-ge-SLOT_WIDTH-clause-shows
returns-then-width-ge-SLOT_WIDTH-clause-shows c = λ s a h. widen_whole _ s _ _ _ _ a c.width.ensures.width c.if-width-ge-SLOT_WIDTH.true c.width.ensures.most h

pub returns-then-is_signed-clause-shows : goal.returns-then-is_signed-clause-shows
returns-then-is_signed-clause-shows c = λ s a h. widen_signed _ _ _ s _ _ _ a c.width.ensures.width c.if-width-ge-SLOT_WIDTH.false (sym c.is_signed.ensures ∙ c.if-is_signed.true) (c.extend_sign.ensures.shows s 64 _ a refl slot-width (width_most _ _) h)

pub returns-else-is_signed-clause-shows : goal.returns-else-is_signed-clause-shows
returns-else-is_signed-clause-shows c = λ s a h. widen_unsigned _ _ _ s _ _ _ a c.width.ensures.width c.if-width-ge-SLOT_WIDTH.false (sym c.is_signed.ensures ∙ c.if-is_signed.false) (c.extend_zero.ensures.shows s 64 _ a refl slot-width (width_most _ _) h)

pub returns-then-width-ge-SLOT_WIDTH-clause-made : goal.returns-then-width-ge-SLOT_WIDTH-clause-made
returns-then-width-ge-SLOT_WIDTH-clause-made c = widen-whole c.args.words.now c.args.kind c.args.model c.args.bits _ c.width.ensures.width c.if-width-ge-SLOT_WIDTH.true

pub returns-then-is_signed-clause-made : goal.returns-then-is_signed-clause-made
returns-then-is_signed-clause-made c = thus _ _ _ _ c.extend_sign.ensures.made (widen-signed c.args.words.now c.args.kind c.args.model c.args.bits _ c.width.ensures.width c.if-width-ge-SLOT_WIDTH.false (sym c.is_signed.ensures ∙ c.if-is_signed.true))

pub returns-else-is_signed-clause-made : goal.returns-else-is_signed-clause-made
returns-else-is_signed-clause-made c = thus _ _ _ _ c.extend_zero.ensures.made (widen-unsigned c.args.words.now c.args.kind c.args.model c.args.bits _ c.width.ensures.width c.if-width-ge-SLOT_WIDTH.false (sym c.is_signed.ensures ∙ c.if-is_signed.false))
