use Rattle.interpolants.specs.Keeping.{term-made, term-told}
use Rattle.interpolants.proofs.joining.TermsAlgebra.constant.Goals as goal

pub returns-clause-made : goal.returns-clause-made
returns-clause-made c = term-made _ _ _ c.in_ok-term.ensures.truth

pub returns-clause-told : goal.returns-clause-told
returns-clause-told c = λ store. term-told _ _ _ store c.in_ok-term.ensures.truth
