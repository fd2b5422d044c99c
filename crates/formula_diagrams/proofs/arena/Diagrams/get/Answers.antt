use Rattle.std.proofs.Common.{◌≡◌, ◌≢◌, ℕ, ◌+◌, ◌-◌, ◌<◌, ◌≤◌, ◌&&◌, ◌||◌, ◌==◌, Bool, true, false, not, List, [], ◌∷◌, ◌++◌, length, refl, sym, ap, ◌∙◌, subst, arith, rules, Some, Result, Ok, Err, slice_get, zero, suc}
use Rattle.formula_diagrams.proofs.Pairing.{fits-at, told-at}
use Rattle.formula_diagrams.proofs.arena.Diagrams.get.Goals as goal

pub returns-clause-fits : goal.returns-clause-fits
returns-clause-fits c =
    let e : c.args.id.0 - 2 + 2 ≡ c.args.id.0 = omega (arith, c.requires.inner) in
    fits-at _ _ _ _ e c.at.ensures.fits

pub returns-clause-told : goal.returns-clause-told
returns-clause-told c =
    let e : c.args.id.0 - 2 + 2 ≡ c.args.id.0 = omega (arith, c.requires.inner) in
    told-at _ _ _ _ e c.at.ensures.told
