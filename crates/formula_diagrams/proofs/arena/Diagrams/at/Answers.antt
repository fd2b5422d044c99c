use Rattle.std.proofs.Common.{◌≡◌, ◌≢◌, ℕ, ◌+◌, ◌-◌, ◌<◌, ◌≤◌, ◌&&◌, ◌||◌, ◌==◌, Bool, true, false, not, List, [], ◌∷◌, ◌++◌, length, refl, sym, ap, ◌∙◌, subst, arith, rules, Some, Result, Ok, Err, slice_get, zero, suc}
use Rattle.formula_diagrams.proofs.Truth.{node-fits, node-holds}
use Rattle.formula_diagrams.proofs.arena.Diagrams.at.Goals as goal

pub returns-clause-fits : goal.returns-clause-fits
returns-clause-fits c = node-fits _ _ _ c.read.ensures.arena c.read.ensures.at

pub returns-clause-told : goal.returns-clause-told
returns-clause-told c = node-holds _ _ _ c.read.ensures.arena c.read.ensures.at
