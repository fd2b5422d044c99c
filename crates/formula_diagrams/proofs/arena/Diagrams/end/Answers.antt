use Rattle.std.proofs.Common.{◌≡◌, ◌≢◌, ℕ, ◌+◌, ◌-◌, ◌<◌, ◌≤◌, ◌&&◌, ◌||◌, ◌==◌, Bool, true, false, not, List, [], ◌∷◌, ◌++◌, length, refl, sym, ap, ◌∙◌, subst, arith, rules, Some, Result, Ok, Err, slice_get, zero, suc}
use Rattle.formula_diagrams.proofs.Pairing.{end-true, end-false}
use Rattle.formula_diagrams.proofs.arena.Diagrams.end.Goals as goal

pub returns-then-value : goal.returns-then-value
returns-then-value c = end-true _ _ c.if-value.true

pub returns-else-value : goal.returns-else-value
returns-else-value c = end-false _ _ c.if-value.false
