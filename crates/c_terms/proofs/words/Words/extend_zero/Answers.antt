use Rattle.c_terms.proofs.Putting.{gives-extend_zero}
use Rattle.c_terms.proofs.words.Words.extend_zero.Goals as goal

pub returns-clause-shows : goal.returns-clause-shows
returns-clause-shows c = λ s v w a e is le h. c.put.ensures.shows s _ _ (gives-extend_zero _ s _ _ v w a e is le h)

pub returns-clause-made : goal.returns-clause-made
returns-clause-made c = c.put.ensures.made
