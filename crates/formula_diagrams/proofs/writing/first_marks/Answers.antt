use Rattle.std.proofs.Common.{◌≡◌, ◌≢◌, ℕ, ◌+◌, ◌-◌, ◌<◌, ◌≤◌, ◌&&◌, ◌||◌, ◌==◌, Bool, true, false, not, List, [], ◌∷◌, ◌++◌, length, refl, sym, ap, ◌∙◌, subst, arith, rules, Some, Result, Ok, Err, slice_get, zero, suc}
use Rattle.formula_diagrams.proofs.Marking.{mark_last}
use Rattle.formula_diagrams.proofs.writing.first_marks.Goals as goal

pub returns-clause-last : goal.returns-clause-last
returns-clause-last c =
    let e : c.args.place ≡ length c.in_ok-marks.marks.items = search rules in
    rw c.in_ok-push.ensures.items (mark_last _ _ e)
