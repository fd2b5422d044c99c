use Rattle.std.proofs.Common.{◌∙◌, ap}
use Rattle.bv_term.specs.declared.term.TermId.{TermId}
use Rattle.c_terms.specs.declared.words.Words.{Words}
use Rattle.c_terms.specs.Made as made
use Rattle.c_terms.proofs.Putting.{grows-twice, after}
use Rattle.c_terms.proofs.Choosing.{thus}
use Rattle.c_terms.proofs.values.nonzero.Goals as goal

pub returns-clause-shows : goal.returns-clause-shows
returns-clause-shows c = λ s a h.
    let z = c.in_ok-zero.ensures.shows s a h in
    let n = c.in_ok-is_true.ensures.shows s _ _ z.shows in
    after _ _ _ _ s _ _ (grows-twice _ _ _ z.grows n.grows) (c.truth.ensures.shows s _ n.shows)

pub returns-clause-made : goal.returns-clause-made
returns-clause-made c =
    let e = c.in_ok-zero.ensures.made in
    let f = c.in_ok-is_true.ensures.made ∙ ap (λ (p : Words × TermId). made.word_not p.0 p.1) e in
    thus _ _ _ _ c.truth.ensures.made (ap (λ (p : Words × TermId). made.truth p.0 p.1) f)
