use Rattle.std.proofs.Common.{◌≡◌, ◌≢◌, ℕ, ◌+◌, ◌-◌, ◌<◌, ◌≤◌, ◌&&◌, ◌||◌, ◌==◌, Bool, true, false, not, List, [], ◌∷◌, ◌++◌, length, refl, sym, ap, ◌∙◌, subst, arith, rules, Some, Result, Ok, Err, slice_get, zero, suc}
use Rattle.formula_diagrams.proofs.Pairing.{once-means, once-inner}
use Rattle.formula_diagrams.proofs.steps.known.Goals as goal

pub returns-in-Some-clause-means : goal.returns-in-Some-clause-means
returns-in-Some-clause-means c = λ a right there. once-means a _ _ _ there (sym c.in-Some.ensures)
