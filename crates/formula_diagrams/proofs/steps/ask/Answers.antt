use Rattle.std.proofs.Common.{◌≡◌, ◌≢◌, ℕ, ◌+◌, ◌-◌, ◌<◌, ◌≤◌, ◌&&◌, ◌||◌, ◌==◌, Bool, true, false, not, List, [], ◌∷◌, ◌++◌, length, refl, sym, ap, ◌∙◌, subst, arith, rules, Some, Result, Ok, Err, slice_get, zero, suc}
use Rattle.formula_diagrams.proofs.Turning.{asked-split, split-fewer}
use Rattle.formula_diagrams.proofs.steps.ask.Goals as goal

pub returns-clause-turn : goal.returns-clause-turn
returns-clause-turn c = λ p w. asked-split _ _ p _ _ _ _ c.in_ok-push.ensures.items c.halves_of-halves.ensures.asked c.halves_of-halves.ensures.split w

pub returns-clause-fewer : goal.returns-clause-fewer
returns-clause-fewer c = split-fewer _ _ _ _ c.in_ok-push.ensures.items c.halves_of-halves.ensures.low c.halves_of-halves.ensures.high
