use Rattle.std.proofs.Common.{◌≡◌, ◌≢◌, ℕ, ◌+◌, ◌-◌, ◌<◌, ◌≤◌, ◌&&◌, ◌||◌, ◌==◌, Bool, true, false, not, List, [], ◌∷◌, ◌++◌, length, refl, sym, ap, ◌∙◌, subst, arith, rules, Some, Result, Ok, Err, slice_get, zero, suc}
use Rattle.formula_diagrams.proofs.Putting.{put-extends}
use Rattle.formula_diagrams.proofs.writing.put_term.Goals as goal

pub returns-clause-extends : goal.returns-clause-extends
returns-clause-extends c = put-extends _ _ _ _ c.put-outcome.ensures.put c.put-outcome.ensures.unchanged
