use Rattle.std.proofs.Common.{refl, arith, ap}
use Rattle.bv_term.specs.declared.term.TermId.{TermId}
use Rattle.c_terms.specs.declared.words.Words.{Words}
use Rattle.c_terms.specs.Made as made
use Rattle.c_terms.proofs.Putting.{later, after}
use Rattle.c_terms.proofs.Choosing.{thus}
use Rattle.c_terms.proofs.words.Words.is_zero.Goals as goal

pub returns-clause-shows : goal.returns-clause-shows
returns-clause-shows c = λ s a h.
    let z = c.in_ok-zero.ensures.shows s 64 refl (omega arith) (omega arith) in
    after _ _ _ _ s _ _ z.grows (c.equal.ensures.shows s _ _ _ (later _ _ s _ _ _ z.grows h) z.shows)

pub returns-clause-made : goal.returns-clause-made
returns-clause-made c = thus _ _ _ _ c.equal.ensures.made (ap (λ (p : Words × TermId). made.word_equal p.0 c.args.slot p.1) c.in_ok-zero.ensures.made)
