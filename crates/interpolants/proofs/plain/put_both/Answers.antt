use Rattle.formula_diagrams.proofs.Putting.{and-bits, and-result}
use Rattle.interpolants.proofs.plain.put_both.Goals as goal

pub returns-in-Open-clause-bit : goal.returns-in-Open-clause-bit
returns-in-Open-clause-bit c = and-bits _ _ _ _ _ c.put_term.ensures.table c.put_term.ensures.extends c.put_term.ensures.named c.requires.left c.requires.right

pub returns-in-Open-clause-truth : goal.returns-in-Open-clause-truth
returns-in-Open-clause-truth c =
    λ f g h i. and-result _ _ _ _ _ c.put_term.ensures.table c.put_term.ensures.extends c.put_term.ensures.named f g h i
