use Rattle.c_terms.proofs.Putting.{gives-not}
use Rattle.c_terms.proofs.words.Words.not.Goals as goal

pub returns-clause-shows : goal.returns-clause-shows
returns-clause-shows c = λ s w a h. c.put.ensures.shows s _ _ (gives-not _ s _ w a h)

pub returns-clause-made : goal.returns-clause-made
returns-clause-made c = c.put.ensures.made
