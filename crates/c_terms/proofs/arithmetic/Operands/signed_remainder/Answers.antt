use Rattle.std.proofs.Common.{◌∙◌, ℕ, ap}
use Rattle.bv_term.specs.declared.term.TermId.{TermId}
use Rattle.c_terms.specs.declared.words.Words.{Words}
use Rattle.c_terms.specs.Made as made
use Rattle.c_terms.proofs.Putting.{grows-twice, later, after}
use Rattle.c_terms.proofs.Slots.{width_some}
use Rattle.c_terms.proofs.Choosing.{thus, two}
use Rattle.c_terms.proofs.arithmetic.Operands.signed_remainder.Goals as goal

pub returns-clause-shows : goal.returns-clause-shows
returns-clause-shows c = λ s a b x h.
    let l = c.in_ok-left.ensures.shows s _ h.left_shows in
    let r = c.in_ok-right.ensures.shows s _ (later _ _ s _ _ _ l.grows h.right_shows) in
    let q = c.in_ok-rest.ensures.shows s _ _ _ (later _ _ s _ _ _ r.grows l.shows) r.shows in
    let g = c.in_ok-sign.ensures.shows s _ _ c.bits-bits.ensures.value (width_some _ _) (later _ _ s _ _ _ (grows-twice _ _ _ (grows-twice _ _ _ l.grows r.grows) q.grows) h.left_shows) in
    after _ _ _ _ s _ _ (grows-twice _ _ _ (grows-twice _ _ _ (grows-twice _ _ _ l.grows r.grows) q.grows) g.grows) (c.with_sign.ensures.shows s _ _ g.shows (later _ _ s _ _ _ g.grows q.shows))

pub returns-clause-made : goal.returns-clause-made
returns-clause-made c =
    let e = c.in_ok-left.ensures.made in
    let f = c.in_ok-right.ensures.made ∙ ap (λ (p : Words × TermId). made.magnitude p.0 c.args.self.now c.args.self.now.right) e in
    let g = c.in_ok-rest.ensures.made ∙ two (λ (p q : Words × TermId). made.word_remainder q.0 p.1 q.1) e f in
    let h = c.in_ok-sign.ensures.made ∙ two (λ (n : ℕ) (p : Words × TermId). made.word_top p.0 n c.args.self.now.left) c.bits-bits.ensures.value g in
    thus _ _ _ _ c.with_sign.ensures.made (two (λ (p q : Words × TermId). made.with_sign q.0 c.args.self.now q.1 p.1) g h)
