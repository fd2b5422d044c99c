use Rattle.std.proofs.Common.{◌∙◌, sym, ap}
use Rattle.bv_term.specs.declared.term.TermId.{TermId}
use Rattle.c_terms.specs.declared.words.Words.{Words}
use Rattle.c_terms.specs.Made as made
use Rattle.c_terms.proofs.Finding.{stand, found-first, found-two}
use Rattle.c_terms.proofs.Choosing.{two, holds, fails}
use Rattle.c_terms.proofs.arithmetic.Operands.division_tests.Goals as goal

pub returns-then-not-is_signed-clause-shows : goal.returns-then-not-is_signed-clause-shows
returns-then-not-is_signed-clause-shows c = λ s a b x h. found-first _ _ s _ _ _ _ _ (sym c.is_signed.ensures ∙ c.if-not-is_signed.true) (c.in_ok-zero.ensures.shows s a b x h)

pub returns-clause-shows : goal.returns-clause-shows
returns-clause-shows c = λ s a b x h.
    let z = c.in_ok-zero.ensures.shows s a b x h in
    found-two _ _ _ s _ _ _ _ _ _ _ (sym c.is_signed.ensures ∙ c.if-not-is_signed.false) z (c.in_ok-when.ensures.shows s a b x (stand _ _ s _ _ _ _ z.grows h))

pub returns-then-not-is_signed-clause-made : goal.returns-then-not-is_signed-clause-made
returns-then-not-is_signed-clause-made c = ap made.zero_of c.in_ok-zero.ensures.made ∙ fails _ _ _ (sym c.is_signed.ensures ∙ c.if-not-is_signed.true)

pub returns-clause-made : goal.returns-clause-made
returns-clause-made c =
    let e = c.in_ok-zero.ensures.made in
    let f = c.in_ok-when.ensures.made ∙ ap (λ (p : Words × TermId). made.quotient_overflows p.0 c.args.self.now) e in
    two (λ (p q : Words × TermId). made.division_of p.1 q) e f ∙ holds _ _ _ (sym c.is_signed.ensures ∙ c.if-not-is_signed.false)
