use Rattle.std.proofs.Common.{Bool, sym, ap, ◌∙◌}
use Rattle.prop.specs.Steps.{same_sign}
use Rattle.formula_diagrams.specs.Truths.{is_set}
use Rattle.interpolants.specs.Keeping.{term-made, term-told}
use Rattle.interpolants.proofs.joining.TermsAlgebra.bit.Goals as goal

pub returns-then-value-clause-made : goal.returns-then-value-clause-made
returns-then-value-clause-made c = term-made _ _ _ c.in_ok-term.ensures.truth

pub returns-then-value-clause-told : goal.returns-then-value-clause-told
returns-then-value-clause-told c =
    λ store. term-told _ _ _ store c.in_ok-term.ensures.truth
    ∙ sym (ap (λ (b : Bool). same_sign b (is_set store c.args.bit)) c.if-value.true)

pub returns-clause-made : goal.returns-clause-made
returns-clause-made c = term-made _ _ _ (c.in_ok-other.ensures.truth _ c.in_ok-term.ensures.truth)

pub returns-clause-told : goal.returns-clause-told
returns-clause-told c =
    λ store. term-told _ _ _ store (c.in_ok-other.ensures.truth _ c.in_ok-term.ensures.truth)
    ∙ sym (ap (λ (b : Bool). same_sign b (is_set store c.args.bit)) c.if-value.false)
