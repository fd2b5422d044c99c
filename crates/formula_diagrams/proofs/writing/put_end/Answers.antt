use Rattle.std.proofs.Common.{◌≡◌, ◌≢◌, ℕ, ◌+◌, ◌-◌, ◌<◌, ◌≤◌, ◌&&◌, ◌||◌, ◌==◌, Bool, true, false, not, List, [], ◌∷◌, ◌++◌, length, refl, sym, ap, ◌∙◌, subst, arith, rules, Some, Result, Ok, Err, slice_get, zero, suc}
use Rattle.formula_diagrams.proofs.Putting.{fits-end, end-bits, end-result}
use Rattle.formula_diagrams.proofs.writing.put_end.Goals as goal

pub put_term-requires : goal.put_term-requires
put_term-requires c = fits-end c.args.terms.now c.args.id.0 c.requires

pub returns-clause-bit : goal.returns-clause-bit
returns-clause-bit c = end-bits _ _ _ c.requires c.put_term.ensures.table c.put_term.ensures.named

pub returns-clause-truth : goal.returns-clause-truth
returns-clause-truth c = end-result _ _ _ c.requires c.put_term.ensures.table c.put_term.ensures.named
