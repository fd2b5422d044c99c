use Rattle.c_terms.proofs.Putting.{gives-truncate}
use Rattle.c_terms.proofs.words.Words.truncate.Goals as goal

pub returns-clause-shows : goal.returns-clause-shows
returns-clause-shows c = λ s v w a e is le h. c.put.ensures.shows s _ _ (gives-truncate _ s _ _ v w a e is le h)

pub returns-clause-made : goal.returns-clause-made
returns-clause-made c = c.put.ensures.made
