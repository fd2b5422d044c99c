use Rattle.std.proofs.Common.{refl, sym, ap, arith}
use Rattle.c_terms.proofs.Putting.{equals, wide}
use Rattle.code_moves.specs.Values.{held}
use Rattle.c_terms.proofs.Choosing.{thus}
use Rattle.code_moves.specs.Made as made
use Rattle.code_moves.proofs.ground.Ground.slot.Goals as goal

pub returns-in-None-clause-shows : goal.returns-in-None-clause-shows
returns-in-None-clause-shows c = λ s h. equals _ _ _ s 64 _ _ (ap (held s) c.in-None.ensures) (c.zero.ensures.shows s 64 refl (omega arith) (omega arith))

pub returns-in-Some-clause-shows : goal.returns-in-Some-clause-shows
returns-in-Some-clause-shows c = λ s h.
    let w = h.lies.slots _ _ (sym c.in-Some.ensures) in
    equals _ _ _ s 64 _ _ (ap (held s) c.in-Some.ensures) (wide _ _ _ s _ 64 _ w.1 (c.cell.ensures.shows s w.0))

pub returns-in-None-clause-made : goal.returns-in-None-clause-made
returns-in-None-clause-made c = thus _ _ _ _ c.zero.ensures.made (ap (made.slot_at c.args.words.now) c.in-None.ensures)

pub returns-in-Some-clause-made : goal.returns-in-Some-clause-made
returns-in-Some-clause-made c = thus _ _ _ _ c.cell.ensures.made (ap (made.slot_at c.args.words.now) c.in-Some.ensures)
