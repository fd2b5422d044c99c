use Rattle.std.proofs.Common.{refl, arith, lt-ltb, le-ltb}
use Rattle.code_moves.proofs.Standing.{chosen-true, chosen-false}
use Rattle.c_terms.proofs.Choosing.{fails, holds, thus}
use Rattle.code_moves.proofs.ground.Ground.begun.Goals as goal

pub returns-then-element-values-clause-shows : goal.returns-then-element-values-clause-shows
returns-then-element-values-clause-shows c = λ s h. chosen-true _ _ _ s 64 _ _ _ (lt-ltb _ _ c.if-element-values.true) (c.slot_behind.ensures.shows s h)

pub returns-else-element-values-clause-shows : goal.returns-else-element-values-clause-shows
returns-else-element-values-clause-shows c = λ s h. chosen-false _ _ _ s 64 _ _ _ (le-ltb _ _ c.if-element-values.false) (c.zero.ensures.shows s 64 refl (omega arith) (omega arith))

pub returns-then-element-values-clause-made : goal.returns-then-element-values-clause-made
returns-then-element-values-clause-made c = thus _ _ _ _ c.slot_behind.ensures.made (holds _ _ _ (lt-ltb _ _ c.if-element-values.true))

pub returns-else-element-values-clause-made : goal.returns-else-element-values-clause-made
returns-else-element-values-clause-made c = thus _ _ _ _ c.zero.ensures.made (fails _ _ _ (le-ltb _ _ c.if-element-values.false))
