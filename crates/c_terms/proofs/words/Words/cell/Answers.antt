use Rattle.c_terms.proofs.Putting.{gives-cell}
use Rattle.c_terms.proofs.words.Words.cell.Goals as goal

pub returns-clause-shows : goal.returns-clause-shows
returns-clause-shows c = λ s lt. c.put.ensures.shows s _ _ (gives-cell _ s _ lt)

pub returns-clause-made : goal.returns-clause-made
returns-clause-made c = c.put.ensures.made
