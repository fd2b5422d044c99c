use Rattle.std.proofs.Common.{refl, arith}
use Rattle.c_terms.proofs.Slots.{narrow_cut, narrow_whole}
use Rattle.c_terms.proofs.Choosing.{thus, narrow-cut, narrow-whole}
use Rattle.c_terms.proofs.values.narrow.Goals as goal

pub returns-then-bits-lt-SLOT_WIDTH-clause-shows : goal.returns-then-bits-lt-SLOT_WIDTH-clause-shows
returns-then-bits-lt-SLOT_WIDTH-clause-shows c = λ s a h. narrow_cut _ _ _ s _ _ _ a c.width-bits.ensures.width c.if-bits-lt-SLOT_WIDTH.true (c.truncate.ensures.shows s _ 64 a refl (omega (arith, c.width-bits.ensures.some), omega (arith, c.width-bits.ensures.most)) (omega (arith, c.width-bits.ensures.most)) h)

pub returns-else-bits-lt-SLOT_WIDTH-clause-shows : goal.returns-else-bits-lt-SLOT_WIDTH-clause-shows
returns-else-bits-lt-SLOT_WIDTH-clause-shows c = λ s a h. narrow_whole _ s _ _ _ _ a c.width-bits.ensures.width c.if-bits-lt-SLOT_WIDTH.false c.width-bits.ensures.most h

pub returns-then-bits-lt-SLOT_WIDTH-clause-made : goal.returns-then-bits-lt-SLOT_WIDTH-clause-made
returns-then-bits-lt-SLOT_WIDTH-clause-made c = thus _ _ _ _ c.truncate.ensures.made (narrow-cut c.args.words.now c.args.kind c.args.model c.args.slot _ c.width-bits.ensures.width c.if-bits-lt-SLOT_WIDTH.true)

pub returns-else-bits-lt-SLOT_WIDTH-clause-made : goal.returns-else-bits-lt-SLOT_WIDTH-clause-made
returns-else-bits-lt-SLOT_WIDTH-clause-made c = narrow-whole c.args.words.now c.args.kind c.args.model c.args.slot _ c.width-bits.ensures.width c.if-bits-lt-SLOT_WIDTH.false
