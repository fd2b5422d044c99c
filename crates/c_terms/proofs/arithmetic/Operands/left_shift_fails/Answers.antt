use Rattle.std.proofs.Common.{◌∙◌, sym, ap}
use Rattle.bv_term.specs.declared.term.TermId.{TermId}
use Rattle.c_terms.specs.declared.words.Words.{Words}
use Rattle.c_terms.specs.Made as made
use Rattle.c_terms.proofs.Putting.{grows-twice, later, after}
use Rattle.c_terms.proofs.Slots.{is_true, kept_false}
use Rattle.c_terms.proofs.Finding.{stand}
use Rattle.c_terms.proofs.Choosing.{thus, two, holds, fails}
use Rattle.c_terms.proofs.arithmetic.Operands.left_shift_fails.Goals as goal

pub returns-then-not-is_signed-clause-shows : goal.returns-then-not-is_signed-clause-shows
returns-then-not-is_signed-clause-shows c = λ s a b x h. kept_false _ _ s _ _ _ _ _ (sym c.is_signed.ensures ∙ c.if-not-is_signed.true) (c.in_ok-far.ensures.shows s a b x h)

pub returns-clause-shows : goal.returns-clause-shows
returns-clause-shows c = λ s a b x h. is_true _ _ _ s _ _ _ _ (sym c.is_signed.ensures ∙ c.if-not-is_signed.false) (let f = c.in_ok-far.ensures.shows s a b x h in
    let l = c.in_ok-lost.ensures.shows s a b x (stand _ _ s _ _ _ _ f.grows h) in
    after _ _ _ _ s _ _ (grows-twice _ _ _ f.grows l.grows) (c.either.ensures.shows s _ _ _ (later _ _ s _ _ _ l.grows f.shows) l.shows))

pub returns-then-not-is_signed-clause-made : goal.returns-then-not-is_signed-clause-made
returns-then-not-is_signed-clause-made c = c.in_ok-far.ensures.made ∙ fails _ _ _ (sym c.is_signed.ensures ∙ c.if-not-is_signed.true)

pub returns-clause-made : goal.returns-clause-made
returns-clause-made c =
    let e = c.in_ok-far.ensures.made in
    let f = c.in_ok-lost.ensures.made ∙ ap (λ (p : Words × TermId). made.shift_loses p.0 c.args.self.now) e in
    thus _ _ _ _ c.either.ensures.made (two (λ (p q : Words × TermId). made.word_either q.0 p.1 q.1) e f ∙ holds _ _ _ (sym c.is_signed.ensures ∙ c.if-not-is_signed.false))
