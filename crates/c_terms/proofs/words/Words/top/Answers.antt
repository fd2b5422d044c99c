use Rattle.std.proofs.Common.{ap}
use Rattle.bv_term.specs.declared.term.Term.TheVariants.{Bit}
use Rattle.c_terms.specs.Made as made
use Rattle.c_terms.proofs.Putting.{gives-top}
use Rattle.c_terms.proofs.Choosing.{thus}
use Rattle.c_terms.proofs.words.Words.top.Goals as goal

pub returns-clause-shows : goal.returns-clause-shows
returns-clause-shows c = λ s w a e le h. c.put.ensures.shows s _ _ (gives-top _ s _ _ _ w a c.saturating_sub.ensures e le h)

pub returns-clause-made : goal.returns-clause-made
returns-clause-made c = thus _ _ _ _ c.put.ensures.made (ap (λ n. made.put c.args.self.now (Bit n c.args.term)) c.saturating_sub.ensures)
