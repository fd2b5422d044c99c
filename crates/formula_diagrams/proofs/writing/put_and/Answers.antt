use Rattle.std.proofs.Common.{◌≡◌, ◌≢◌, ℕ, ◌+◌, ◌-◌, ◌<◌, ◌≤◌, ◌&&◌, ◌||◌, ◌==◌, Bool, true, false, not, List, [], ◌∷◌, ◌++◌, length, refl, sym, ap, ◌∙◌, subst, arith, rules, Some, Result, Ok, Err, slice_get, zero, suc}
use Rattle.formula_diagrams.proofs.Putting.{fits-and, and-bits, and-result}
use Rattle.formula_diagrams.proofs.writing.put_and.Goals as goal

pub put_term-requires : goal.put_term-requires
put_term-requires c = fits-and _ _ _ c.requires.left c.requires.right

pub returns-clause-bit : goal.returns-clause-bit
returns-clause-bit c = and-bits _ _ _ _ _ c.put_term.ensures.table c.put_term.ensures.extends c.put_term.ensures.named c.requires.left c.requires.right

pub returns-clause-truth : goal.returns-clause-truth
returns-clause-truth c = λ f g h i. and-result _ _ _ _ _ c.put_term.ensures.table c.put_term.ensures.extends c.put_term.ensures.named f g h i
