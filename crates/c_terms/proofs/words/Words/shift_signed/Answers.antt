use Rattle.c_terms.proofs.Putting.{gives-shift_signed}
use Rattle.c_terms.proofs.words.Words.shift_signed.Goals as goal

pub returns-clause-shows : goal.returns-clause-shows
returns-clause-shows c = λ s w a b h g. c.put.ensures.shows s _ _ (gives-shift_signed _ s _ _ w a b h g)

pub returns-clause-made : goal.returns-clause-made
returns-clause-made c = c.put.ensures.made
