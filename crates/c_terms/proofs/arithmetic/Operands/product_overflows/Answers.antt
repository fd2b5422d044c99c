use Rattle.std.proofs.Common.{◌*◌, ap, arith, ◌∙◌, ℕ}
use Rattle.bv_term.specs.declared.term.TermId.{TermId}
use Rattle.c_terms.specs.declared.words.Words.{Words}
use Rattle.c_terms.specs.Made as made
use Rattle.c_terms.proofs.Putting.{grows-twice, later, after}
use Rattle.c_terms.proofs.Slots.{width_is, double_is}
use Rattle.c_terms.proofs.Choosing.{thus, two}
use Rattle.c_terms.proofs.arithmetic.Operands.product_overflows.Goals as goal

pub returns-clause-shows : goal.returns-clause-shows
returns-clause-shows c = λ s a b x h.
    let z = c.in_ok-exact.ensures.shows s a b x h in
    let l = c.in_ok-low.ensures.shows s _ _ _ c.bits-bits.ensures.value (width_is _ _) (omega arith) z.shows in
    let e = c.in_ok-extended.ensures.shows s _ _ _ (ap (λ n. n * 2) c.bits-bits.ensures.value) (double_is _ _) (omega arith) l.shows in
    let q = c.in_ok-same.ensures.shows s _ _ _ e.shows (later _ _ s _ _ _ (grows-twice _ _ _ l.grows e.grows) z.shows) in
    after _ _ _ _ s _ _ (grows-twice _ _ _ (grows-twice _ _ _ (grows-twice _ _ _ z.grows l.grows) e.grows) q.grows) (c.not.ensures.shows s _ _ q.shows)

pub returns-clause-made : goal.returns-clause-made
returns-clause-made c =
    let e = c.in_ok-exact.ensures.made in
    let f = c.in_ok-low.ensures.made ∙ two (λ (n : ℕ) (p : Words × TermId). made.word_truncate p.0 n p.1) c.bits-bits.ensures.value e in
    let g = c.in_ok-extended.ensures.made ∙ two (λ (n : ℕ) (p : Words × TermId). made.word_extend_sign p.0 n p.1) (ap (λ n. n * 2) c.bits-bits.ensures.value) f in
    let h = c.in_ok-same.ensures.made ∙ two (λ (p q : Words × TermId). made.word_equal q.0 q.1 p.1) e g in
    thus _ _ _ _ c.not.ensures.made (ap (λ (p : Words × TermId). made.word_not p.0 p.1) h)
