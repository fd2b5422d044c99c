use Rattle.c_terms.proofs.Putting.{after}
use Rattle.c_terms.specs.declared.words.Words.{Words}
use Rattle.bv_term.specs.declared.term.TermId.{TermId}
use Rattle.c_terms.proofs.Choosing.{thus}
use Rattle.std.proofs.Common.{ap}
use Rattle.c_terms.specs.Made as term
use Rattle.code_moves.proofs.ground.Ground.element_in.Goals as goal

pub returns-clause-shows : goal.returns-clause-shows
returns-clause-shows c = λ s a r h.
    let z = c.in_ok-bits.ensures.shows s a r h in
    after _ _ _ _ s _ _ z.grows (c.widen.ensures.shows s _ z.shows)

pub returns-clause-made : goal.returns-clause-made
returns-clause-made c = thus _ _ _ _ c.widen.ensures.made (ap (λ (p : Words × TermId). term.widen p.0 c.args.room.kind c.args.self.now.model p.1) c.in_ok-bits.ensures.made)
