use Rattle.std.proofs.Common.{◌≡◌, ◌≢◌, ℕ, ◌+◌, ◌-◌, ◌<◌, ◌≤◌, ◌&&◌, ◌||◌, ◌==◌, Bool, true, false, not, List, [], ◌∷◌, ◌++◌, length, refl, sym, ap, ◌∙◌, subst, arith, rules, Some, Result, Ok, Err, slice_get, zero, suc}
use Rattle.formula_diagrams.proofs.Pairing.{bit-tells}
use Rattle.formula_diagrams.proofs.arena.Diagrams.bit.Goals as goal

pub returns-clause-made : goal.returns-clause-made
returns-clause-made c = bit-tells _ _ _ _ c.make.ensures.made
