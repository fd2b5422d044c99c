use Rattle.std.proofs.Common.{refl, arith}
use Rattle.c_terms.proofs.Putting.{slot-width}
use Rattle.c_terms.proofs.words.Words.truth.Goals as goal

pub returns-clause-shows : goal.returns-clause-shows
returns-clause-shows c = λ s a h. c.extend_zero.ensures.shows s 64 1 a refl slot-width (omega arith) h

pub returns-clause-made : goal.returns-clause-made
returns-clause-made c = c.extend_zero.ensures.made
