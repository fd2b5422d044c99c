use Rattle.std.proofs.Common.{List, ap, ◌∙◌}
use Rattle.bv_term.specs.declared.term.TermId.{TermId}
use Rattle.term_copy.specs.Copies.{number_in}
use Rattle.interpolants.proofs.KeptCells.{kept-bit, kept-formula, kept-plain}
use Rattle.interpolants.specs.Placings.{bits_of}
use Rattle.interpolants.proofs.formulas.put_kept.Goals as goal

pub returns-clause-bit : goal.returns-clause-bit
returns-clause-bit c =
    let named = c.number_in.ensures ∙ ap (λ (ts : List TermId). number_in ts c.in_ok-formula.formula) c.deref.ensures.value in
    kept-bit _ _ c.args.kept.now c.in_ok-to.to.items c.in_ok-formula.formula _ c.in_ok-to.ensures.masked c.in_ok-to.ensures.count named c.in_ok-formula.ensures.bit

pub returns-clause-names : goal.returns-clause-names
returns-clause-names c =
    let named = c.number_in.ensures ∙ ap (λ (ts : List TermId). number_in ts c.in_ok-formula.formula) c.deref.ensures.value in
    kept-plain _ _ c.args.kept.now c.in_ok-to.to.items c.in_ok-formula.formula _ c.in_ok-to.ensures.masked c.in_ok-to.ensures.count named c.in_ok-formula.ensures.bit

pub returns-clause-meaning : goal.returns-clause-meaning
returns-clause-meaning c =
    λ bundles ends same kept room some.
    let named = c.number_in.ensures ∙ ap (λ (ts : List TermId). number_in ts c.in_ok-formula.formula) c.deref.ensures.value in
    kept-formula _ _ c.args.kept.now c.in_ok-to.to.items c.in_ok-formula.formula _ c.in_ok-to.ensures.masked c.in_ok-to.ensures.count named c.in_ok-formula.ensures.bit
    bundles c.args.cut.now.clauses.now c.args.cut.now.log.now c.args.cut.now.edge kept (c.in_ok-formula.ensures.meaning (bits_of bundles) ends same room some)
