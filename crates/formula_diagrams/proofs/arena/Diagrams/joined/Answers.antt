use Rattle.std.proofs.Common.{◌≡◌, ◌≢◌, ℕ, ◌+◌, ◌-◌, ◌<◌, ◌≤◌, ◌&&◌, ◌||◌, ◌==◌, Bool, true, false, not, List, [], ◌∷◌, ◌++◌, length, refl, sym, ap, ◌∙◌, subst, arith, rules, Some, Result, Ok, Err, slice_get, zero, suc}
use Rattle.formula_diagrams.proofs.Pairing.{old-result}
use Rattle.formula_diagrams.proofs.arena.Diagrams.joined.Goals as goal

pub returns-clause-made : goal.returns-clause-made
returns-clause-made c = old-result _ _ _ _ _ _ c.join.ensures.grown c.requires.left c.requires.right c.join.ensures.means
