use Rattle.c_terms.proofs.Putting.{gives-divide}
use Rattle.c_terms.proofs.words.Words.divide.Goals as goal

pub returns-clause-shows : goal.returns-clause-shows
returns-clause-shows c = λ s w a b h g. c.put.ensures.shows s _ _ (gives-divide _ s _ _ w a b h g)

pub returns-clause-made : goal.returns-clause-made
returns-clause-made c = c.put.ensures.made
