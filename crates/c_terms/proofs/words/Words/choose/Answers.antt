use Rattle.c_terms.proofs.Putting.{gives-choose}
use Rattle.c_terms.proofs.words.Words.choose.Goals as goal

pub returns-clause-shows : goal.returns-clause-shows
returns-clause-shows c = λ s w x a b h f g. c.put.ensures.shows s _ _ (gives-choose _ s _ _ _ w x a b h f g)

pub returns-clause-made : goal.returns-clause-made
returns-clause-made c = c.put.ensures.made
