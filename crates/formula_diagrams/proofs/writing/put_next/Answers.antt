use Rattle.std.proofs.Common.{◌≡◌, ◌≢◌, ℕ, ◌+◌, ◌-◌, ◌<◌, ◌≤◌, ◌&&◌, ◌||◌, ◌==◌, Bool, true, false, not, List, [], ◌∷◌, ◌++◌, length, refl, sym, ap, ◌∙◌, subst, arith, rules, Some, Result, Ok, Err, slice_get, zero, suc}
use Rattle.std.proofs.lemmas.Bool.{both_ways}
use Rattle.formula_diagrams.proofs.writing.put_next.Goals as goal

pub put_needed-requires-clause-marked : goal.put_needed-requires-clause-marked
put_needed-requires-clause-marked c = sym c.is_at.ensures ∙ c.if-is_at.true

pub returns-then-is_at-clause-truth : goal.returns-then-is_at-clause-truth
returns-then-is_at-clause-truth c = λ e. c.put_needed.ensures.truth

pub returns-else-is_at-clause-truth : goal.returns-else-is_at-clause-truth
returns-else-is_at-clause-truth c = λ e. absurd (both_ways _ (sym c.is_at.ensures ∙ c.if-is_at.false) e)
