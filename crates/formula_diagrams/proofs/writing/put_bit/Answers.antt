use Rattle.std.proofs.Common.{◌≡◌, ◌≢◌, ℕ, ◌+◌, ◌-◌, ◌<◌, ◌≤◌, ◌&&◌, ◌||◌, ◌==◌, Bool, true, false, not, List, [], ◌∷◌, ◌++◌, length, refl, sym, ap, ◌∙◌, subst, arith, rules, Some, Result, Ok, Err, slice_get, zero, suc}
use Rattle.formula_diagrams.proofs.Putting.{fits-bit, extends-twice, bit-result}
use Rattle.formula_diagrams.proofs.writing.put_bit.Goals as goal

pub put_term-requires-2 : goal.put_term-requires-2
put_term-requires-2 c = fits-bit _ _ _ _ c.requires c.in_ok-cell.ensures.extends c.in_ok-cell.ensures.table c.in_ok-cell.ensures.named

pub returns-clause-extends : goal.returns-clause-extends
returns-clause-extends c = extends-twice _ _ _ c.in_ok-cell.ensures.extends c.put_term-2.ensures.extends

pub returns-clause-truth : goal.returns-clause-truth
returns-clause-truth c = bit-result _ _ _ _ _ c.in_ok-cell.ensures.table c.in_ok-cell.ensures.named c.put_term-2.ensures.table c.put_term-2.ensures.extends c.put_term-2.ensures.named
