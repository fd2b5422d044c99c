use Rattle.std.proofs.Common.{sym, ◌∙◌, ap}
use Rattle.c_terms.proofs.Finding.{found-none, found-one}
use Rattle.code_moves.proofs.Standing.{since}
use Rattle.c_terms.specs.declared.words.Words.{Words}
use Rattle.bv_term.specs.declared.term.TermId.{TermId}
use Rattle.lv_base.specs.Integers.{is_signed}
use Rattle.c_terms.proofs.Choosing.{fails, holds}
use Rattle.code_moves.specs.Made as made
use Rattle.c_terms.specs.Made as term
use Rattle.lv_base.specs.declared.fault.ErrorKind.TheVariants as error
use Rattle.code_moves.proofs.ground.Ground.negation_test.Goals as goal

pub returns-then-not-is_signed-clause-shows : goal.returns-then-not-is_signed-clause-shows
returns-then-not-is_signed-clause-shows c = λ s h. found-none _ s _ _ (sym c.is_signed.ensures ∙ c.if-not-is_signed.true)

pub returns-clause-shows : goal.returns-clause-shows
returns-clause-shows c = λ s h.
    let z = c.in_ok-operand.ensures.shows s h in
    let w = c.in_ok-when.ensures.shows s _ z.shows in
    found-one _ _ s _ _ _ _ (sym c.is_signed.ensures ∙ c.if-not-is_signed.false) (since _ _ _ s _ _ _ z.grows w)

pub returns-then-not-is_signed-clause-made : goal.returns-then-not-is_signed-clause-made
returns-then-not-is_signed-clause-made c = fails _ _ _ (sym c.is_signed.ensures ∙ c.if-not-is_signed.true)

pub returns-clause-made : goal.returns-clause-made
returns-clause-made c =
    let e = c.in_ok-when.ensures.made ∙ ap (λ (p : Words × TermId). term.negation_overflows p.0 c.args.kind c.args.self.now.model p.1) c.in_ok-operand.ensures.made in
    ap (made.one error.Overflow) e ∙ holds _ _ _ (sym c.is_signed.ensures ∙ c.if-not-is_signed.false)
