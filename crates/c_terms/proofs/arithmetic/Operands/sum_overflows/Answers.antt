use Rattle.std.proofs.Common.{◌∙◌, ap}
use Rattle.bv_term.specs.declared.term.TermId.{TermId}
use Rattle.c_terms.specs.declared.words.Words.{Words}
use Rattle.c_terms.specs.Made as made
use Rattle.c_terms.proofs.Putting.{grows-twice, later, after}
use Rattle.c_terms.proofs.Finding.{stand}
use Rattle.c_terms.proofs.Choosing.{thus, two}
use Rattle.c_terms.proofs.arithmetic.Operands.sum_overflows.Goals as goal

pub returns-clause-shows : goal.returns-clause-shows
returns-clause-shows c = λ s a b x h.
    let z = c.in_ok-sum.ensures.shows s _ _ _ h.left_shows h.right_shows in
    let d = c.in_ok-differ.ensures.shows s a b x (stand _ _ s _ _ _ _ z.grows h) in
    let t = c.in_ok-turned.ensures.shows s a b x _ (stand _ _ s _ _ _ _ (grows-twice _ _ _ z.grows d.grows) h) (later _ _ s _ _ _ d.grows z.shows) in
    let m = c.in_ok-same.ensures.shows s _ _ (later _ _ s _ _ _ t.grows d.shows) in
    after _ _ _ _ s _ _ (grows-twice _ _ _ (grows-twice _ _ _ (grows-twice _ _ _ z.grows d.grows) t.grows) m.grows) (c.both.ensures.shows s _ _ _ m.shows (later _ _ s _ _ _ m.grows t.shows))

pub returns-clause-made : goal.returns-clause-made
returns-clause-made c =
    let e = c.in_ok-sum.ensures.made in
    let f = c.in_ok-differ.ensures.made ∙ ap (λ (p : Words × TermId). made.signs_differ p.0 c.args.self.now) e in
    let g = c.in_ok-turned.ensures.made ∙ two (λ (p q : Words × TermId). made.turns q.0 c.args.self.now p.1) e f in
    let h = c.in_ok-same.ensures.made ∙ two (λ (p q : Words × TermId). made.word_not q.0 p.1) f g in
    thus _ _ _ _ c.both.ensures.made (two (λ (p q : Words × TermId). made.word_both q.0 q.1 p.1) g h)
