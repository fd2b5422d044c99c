use Rattle.std.proofs.Common.{arith, ◌∙◌, ℕ, ap}
use Rattle.bv_term.specs.declared.term.TermId.{TermId}
use Rattle.c_terms.specs.declared.words.Words.{Words}
use Rattle.c_terms.specs.Made as made
use Rattle.c_terms.proofs.Putting.{grows-twice, later, after}
use Rattle.c_terms.proofs.Slots.{width_some, width_most}
use Rattle.c_terms.proofs.Choosing.{thus, two}
use Rattle.c_terms.proofs.values.negated.Goals as goal

pub returns-clause-shows : goal.returns-clause-shows
returns-clause-shows c = λ s a h.
    let z = c.in_ok-bits.ensures.shows s a h in
    let n = c.in_ok-zero.ensures.shows s _ c.width.ensures.width (width_some _ _) (omega (arith, width_most c.args.kind c.args.model)) in
    let m = c.in_ok-less.ensures.shows s _ _ _ n.shows (later _ _ s _ _ _ n.grows z.shows) in
    after _ _ _ _ s _ _ (grows-twice _ _ _ (grows-twice _ _ _ z.grows n.grows) m.grows) (c.widen.ensures.shows s _ m.shows)

pub returns-clause-made : goal.returns-clause-made
returns-clause-made c =
    let e = c.in_ok-bits.ensures.made in
    let f = c.in_ok-zero.ensures.made ∙ two (λ (n : ℕ) (p : Words × TermId). made.zero p.0 n) c.width.ensures.width e in
    let g = c.in_ok-less.ensures.made ∙ two (λ (p q : Words × TermId). made.word_subtract q.0 q.1 p.1) e f in
    thus _ _ _ _ c.widen.ensures.made (ap (λ (p : Words × TermId). made.widen p.0 c.args.kind c.args.model p.1) g)
