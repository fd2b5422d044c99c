use Rattle.formula_diagrams.proofs.Putting.{not-bits, not-result}
use Rattle.interpolants.proofs.plain.put_not.Goals as goal

pub returns-clause-bit : goal.returns-clause-bit
returns-clause-bit c = not-bits _ _ _ _ c.put_term.ensures.table c.put_term.ensures.extends c.put_term.ensures.named c.requires

pub returns-clause-truth : goal.returns-clause-truth
returns-clause-truth c = λ f h. not-result _ _ _ _ c.put_term.ensures.table c.put_term.ensures.extends c.put_term.ensures.named f h
