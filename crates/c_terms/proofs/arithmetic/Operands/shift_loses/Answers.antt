use Rattle.std.proofs.Common.{◌∙◌, ℕ, ap}
use Rattle.bv_term.specs.declared.term.TermId.{TermId}
use Rattle.c_terms.specs.declared.words.Words.{Words}
use Rattle.c_terms.specs.Made as made
use Rattle.c_terms.proofs.Putting.{grows-twice, later, after}
use Rattle.c_terms.proofs.Slots.{width_some}
use Rattle.c_terms.proofs.Choosing.{thus, two}
use Rattle.c_terms.proofs.arithmetic.Operands.shift_loses.Goals as goal

pub returns-clause-shows : goal.returns-clause-shows
returns-clause-shows c = λ s a b x h.
    let f = c.in_ok-shifted.ensures.shows s _ _ _ h.left_shows h.right_shows in
    let k = c.in_ok-back.ensures.shows s _ _ _ f.shows (later _ _ s _ _ _ f.grows h.right_shows) in
    let q = c.in_ok-same.ensures.shows s _ _ _ k.shows (later _ _ s _ _ _ (grows-twice _ _ _ f.grows k.grows) h.left_shows) in
    let l = c.in_ok-lost.ensures.shows s _ _ q.shows in
    let g = c.in_ok-sign.ensures.shows s _ _ c.bits-bits.ensures.value (width_some _ _) (later _ _ s _ _ _ (grows-twice _ _ _ (grows-twice _ _ _ (grows-twice _ _ _ f.grows k.grows) q.grows) l.grows) h.left_shows) in
    after _ _ _ _ s _ _ (grows-twice _ _ _ (grows-twice _ _ _ (grows-twice _ _ _ (grows-twice _ _ _ f.grows k.grows) q.grows) l.grows) g.grows) (c.either.ensures.shows s _ _ _ g.shows (later _ _ s _ _ _ g.grows l.shows))

pub returns-clause-made : goal.returns-clause-made
returns-clause-made c =
    let e = c.in_ok-shifted.ensures.made in
    let f = c.in_ok-back.ensures.made ∙ ap (λ (p : Words × TermId). made.word_shift_signed p.0 p.1 c.args.self.now.right) e in
    let g = c.in_ok-same.ensures.made ∙ ap (λ (p : Words × TermId). made.word_equal p.0 p.1 c.args.self.now.left) f in
    let h = c.in_ok-lost.ensures.made ∙ ap (λ (p : Words × TermId). made.word_not p.0 p.1) g in
    let k = c.in_ok-sign.ensures.made ∙ two (λ (n : ℕ) (p : Words × TermId). made.word_top p.0 n c.args.self.now.left) c.bits-bits.ensures.value h in
    thus _ _ _ _ c.either.ensures.made (two (λ (p q : Words × TermId). made.word_either q.0 q.1 p.1) h k)
