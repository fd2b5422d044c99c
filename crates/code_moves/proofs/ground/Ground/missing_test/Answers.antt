use Rattle.c_terms.proofs.Finding.{found-none, found-one}
use Rattle.code_moves.proofs.Standing.{since}
use Rattle.c_terms.specs.declared.words.Words.{Words}
use Rattle.bv_term.specs.declared.term.TermId.{TermId}
use Rattle.c_terms.proofs.Choosing.{fails, holds}
use Rattle.std.proofs.Common.{ap, ◌∙◌}
use Rattle.code_moves.specs.Made as made
use Rattle.c_terms.specs.Made as term
use Rattle.lv_base.specs.declared.fault.ErrorKind.TheVariants as error
use Rattle.code_moves.proofs.ground.Ground.missing_test.Goals as goal

pub returns-then-not-is_needed-clause-shows : goal.returns-then-not-is_needed-clause-shows
returns-then-not-is_needed-clause-shows c = λ s h. found-none _ s _ _ c.if-not-is_needed.true

pub returns-clause-shows : goal.returns-clause-shows
returns-clause-shows c = λ s h.
    let z = c.in_ok-flag.ensures.shows s h in
    let w = c.in_ok-when.ensures.shows s _ z.shows in
    found-one _ _ s _ _ _ _ c.if-not-is_needed.false (since _ _ _ s _ _ _ z.grows w)

pub returns-then-not-is_needed-clause-made : goal.returns-then-not-is_needed-clause-made
returns-then-not-is_needed-clause-made c = fails _ _ _ c.if-not-is_needed.true

pub returns-clause-made : goal.returns-clause-made
returns-clause-made c =
    let e = c.in_ok-when.ensures.made ∙ ap (λ (p : Words × TermId). term.is_zero p.0 p.1) c.in_ok-flag.ensures.made in
    ap (made.one error.Missing) e ∙ holds _ _ _ c.if-not-is_needed.false
