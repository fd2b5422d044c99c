use Rattle.std.proofs.Common.{arith}
use Rattle.c_terms.proofs.Putting.{wide}
use Rattle.code_moves.proofs.Standing.{gives-element, chosen-true, chosen-false}
use Rattle.c_terms.proofs.Choosing.{fails, holds, thus}
use Rattle.code_moves.proofs.ground.Ground.bits.Goals as goal

pub returns-then-room-clause-shows : goal.returns-then-room-clause-shows
returns-then-room-clause-shows c = λ s a r h. chosen-true _ _ _ s _ _ _ _ c.if-room.true (wide _ _ _ s _ _ _ r.wide (c.put.ensures.shows s _ _ (gives-element _ s _ _ _ 64 a r.elements h)))

pub returns-else-room-clause-shows : goal.returns-else-room-clause-shows
returns-else-room-clause-shows c = λ s a r h. chosen-false _ _ _ s _ _ _ _ c.if-room.false (wide _ _ _ s _ _ _ r.wide (c.cell.ensures.shows s (omega (arith, r.elements.0, r.elements.1))))

pub returns-then-room-clause-made : goal.returns-then-room-clause-made
returns-then-room-clause-made c = thus _ _ _ _ c.put.ensures.made (holds _ _ _ c.if-room.true)

pub returns-else-room-clause-made : goal.returns-else-room-clause-made
returns-else-room-clause-made c = thus _ _ _ _ c.cell.ensures.made (fails _ _ _ c.if-room.false)
