use Rattle.std.proofs.Common.{ap}
use Rattle.bv_term.specs.declared.term.TermId.{TermId}
use Rattle.c_terms.specs.declared.words.Words.{Words}
use Rattle.c_terms.specs.Made as made
use Rattle.c_terms.proofs.Putting.{after}
use Rattle.c_terms.proofs.Choosing.{thus}
use Rattle.c_terms.proofs.arithmetic.Operands.either.Goals as goal

pub returns-clause-shows : goal.returns-clause-shows
returns-clause-shows c = λ s a b x h.
    let z = c.in_ok-bits.ensures.shows s _ _ _ h.left_shows h.right_shows in
    after _ _ _ _ s _ _ z.grows (c.widen.ensures.shows s _ z.shows)

pub returns-clause-made : goal.returns-clause-made
returns-clause-made c = thus _ _ _ _ c.widen.ensures.made (ap (λ (p : Words × TermId). made.widen p.0 c.args.self.now.kind c.args.self.now.model p.1) c.in_ok-bits.ensures.made)
