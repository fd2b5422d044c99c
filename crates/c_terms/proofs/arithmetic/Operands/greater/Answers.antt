use Rattle.std.proofs.Common.{ap}
use Rattle.bv_term.specs.declared.term.TermId.{TermId}
use Rattle.c_terms.specs.declared.words.Words.{Words}
use Rattle.c_terms.specs.Made as made
use Rattle.c_terms.proofs.Putting.{after}
use Rattle.c_terms.proofs.Choosing.{thus}
use Rattle.c_terms.proofs.arithmetic.Operands.greater.Goals as goal

pub returns-clause-shows : goal.returns-clause-shows
returns-clause-shows c = λ s a b x h.
    let z = c.in_ok-is.ensures.shows s _ _ h.right_shows h.left_shows in
    after _ _ _ _ s _ _ z.grows (c.truth.ensures.shows s _ z.shows)

pub returns-clause-made : goal.returns-clause-made
returns-clause-made c = thus _ _ _ _ c.truth.ensures.made (ap (λ (p : Words × TermId). made.truth p.0 p.1) c.in_ok-is.ensures.made)
