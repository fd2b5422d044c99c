use Rattle.std.proofs.Common.{◌≡◌, ◌≢◌, ℕ, ◌+◌, ◌-◌, ◌<◌, ◌≤◌, ◌&&◌, ◌||◌, ◌==◌, Bool, true, false, not, List, [], ◌∷◌, ◌++◌, length, refl, sym, ap, ◌∙◌, subst, arith, rules, Some, Result, Ok, Err, slice_get, zero, suc}
use Rattle.formula_diagrams.proofs.Pairing.{negated-result}
use Rattle.formula_diagrams.proofs.arena.Diagrams.negated.Goals as goal

pub returns-clause-made : goal.returns-clause-made
returns-clause-made c = negated-result _ _ _ _ c.joined.ensures.made
